-- What each return of a function that writes a part of an error's line shows, over plain variables. Assumes nothing.
use mathlib.Core.Path.{◌≡◌, refl, sym, ap, ◌∙◌}
use mathlib.Core.List.{List, [], ◌∷◌, ◌++◌, append-nil}
use Prim.Native.Nat.{ℕ, zero, suc}
use lib.ListN.{take}
use lib.Seq.{take-nil}
use Rattle.lex.specs.Text.{text}
use Rattle.record.specs.declared.ErrorKind.{ErrorKind}
use Rattle.record.specs.declared.ErrorKind.TheVariants as error
use Rattle.record.specs.Own.{kind_number, kind_at}
use Rattle.errors.specs.declared.ErrorRow.{ErrorRow}
use Rattle.errors.specs.Rows.{error_of}
use Rattle.output.specs.Output.{Appends, number_text, newline}
use Rattle.output.specs.Appending.{append_none, then, appends_as}
use Rattle.error_lines.specs.ErrorLines.{each_text, values_of, error_text, error_line, place_text, value_count, value_cells}

-- an error has as many values as its kind says
values_as : (k : ErrorKind) (a b c : ℕ) → take (value_count k) (a ∷ b ∷ c ∷ []) ≡ values_of k a b c
values_as error.TypeMismatch a b c = refl
values_as error.NoIndexOp a b c = refl
values_as error.NoUnaryOp a b c = refl
values_as error.NoBinaryOp a b c = refl
values_as error.CallingNotFn a b c = refl
values_as error.WrongArgumentTy a b c = refl
values_as error.WrongArgumentAmnt a b c = refl
values_as error.NoField a b c = refl
values_as error.NotInstance a b c = refl
values_as error.MethodNotFound a b c = refl
values_as error.InferFail a b c = refl

-- no value, one, two and three of them
pub values_none : (l : List ℕ) (n : ℕ) (c : ℕ) (x : List ℕ) → n ≡ 0 → Appends (each_text (take n l)) c x c x
unfolding each_text
values_none l n c x e = rw e (append_none c x)

pub values_one : {c d : ℕ} {x y : List ℕ} (r : ErrorRow) (n : ℕ) → n ≡ 1 → Appends (text "," ++ number_text r.a) c x d y → Appends (each_text (take n (value_cells r))) c x d y
unfolding each_text
values_one r n e f = rw e (appends_as (sym (append-nil (text "," ++ number_text r.a))) f)

pub values_two : {c d e : ℕ} {x y z : List ℕ} (r : ErrorRow) (n : ℕ) → n ≡ 2 → Appends (text "," ++ number_text r.a) c x d y → Appends (text "," ++ number_text r.b) d y e z → Appends (each_text (take n (value_cells r))) c x e z
unfolding each_text
values_two r n e f g = rw e (then f (appends_as (sym (append-nil (text "," ++ number_text r.b))) g))

pub values_three : {c d e v : ℕ} {x y z w : List ℕ} (r : ErrorRow) (n : ℕ) → (n ≡ 0 → ⊥) → (n ≡ 1 → ⊥) → (n ≡ 2 → ⊥) → Appends (text "," ++ number_text r.a) c x d y → Appends (text "," ++ number_text r.b) d y e z → Appends (text "," ++ number_text r.c) e z v w → Appends (each_text (take n (value_cells r))) c x v w
unfolding each_text
values_three r zero p q k f g h = absurd (p refl)
values_three r (suc zero) p q k f g h = absurd (q refl)
values_three r (suc (suc zero)) p q k f g h = absurd (k refl)
values_three r (suc (suc (suc n))) p q k f g h = then f (then g (appends_as (ap (λ l. text "," ++ number_text r.c ++ each_text l) (sym (take-nil n)) ∙ refl) (appends_as (sym (append-nil (text "," ++ number_text r.c))) h)))

-- the line of an error
pub error_line_lem : {c d e v w u : ℕ} {x y z a b o : List ℕ} (r : ErrorRow) (n q : ℕ) → n ≡ kind_number (kind_at r.kind) → q ≡ value_count (kind_at r.kind) → Appends (text "error=" ++ number_text n) c x d y → Appends (text "," ++ number_text r.cause) d y e z → Appends (place_text (error_of r)) e z v a → Appends (each_text (take q (value_cells r))) v a w b → Appends newline w b u o → Appends (error_line r) c x u o
unfolding error_line error_text error_of
error_line_lem r n q k l f g h m o =
    then (then (then (then (appends_as (ap (λ j. text "error=" ++ number_text j) k) f) g) h) (appends_as (ap each_text (ap (λ j. take j (value_cells r)) l ∙ values_as (kind_at r.kind) r.a r.b r.c)) m)) o
