-- A function's locals are freed at once, where they lie behind all else in the context, as they were allocated: it stands for a `forget` and a `free1` of each. Assumes `Logic`.
--     Held, cell       what a local holds, a value or nothing, and its cell
--     locals E hs Γ    the locals E, which hold hs, in front of Γ: as `alloc1` puts them, the last first
--     frees_all k hs   the first k entries of the context are kept, and the rest are the locals, which `refl` shows
use Rattle.std.specs.Prelude.{◌≡◌, ℕ, zero, suc, List, [], ◌∷◌}
use Rattle.std.proofs.Common.{sym, subst}
use seplogic.Ra.Ura.{Ura}
use base.Fraction.{full_share}
use mir.Syntax.{Ty}
use mir.Val.{Val}
use base.Logic.{SProp, ent, sep, emp, via, id⊢, emp∗, snd∗, comm∗, assoc∗, assoc', mono_l, mono_r}
use base.Fml.{fat, froom, fdies}
use prog.Wp.{Env, release}
use types.Logic.{Logic}
use types.Kit.{Item, mean, ‵, raw, ◌⊛◌, ⋆, push, pop, Goal, frees, aim, Step, step, ◌$◌, ◌∵◌, !, qed, move, use1, split, join, done}

-- what a local holds: a value, or nothing
pub data Held : Type 0 where
  full : Val → Held
  void : Held

module _ {M : Type 1} {𝓤 : Ura M} where
  -- the cell of a local that holds h
  abbrev pub cell : Ty → ℕ → Held → Item 𝓤
  cell τ b (full v) = ‵ (fat full_share τ b zero v)
  cell τ b void = ‵ (froom τ b zero)

  -- the locals in front of a context, the last first
  abbrev pub locals : List (Ty × ℕ) → List Held → List (Item 𝓤) → List (Item 𝓤)
  locals [] hs Γ = Γ
  locals (e ∷ E) [] Γ = locals E [] (cell e.0 e.1 void ∷ ‵ (fdies e.0 e.1) ∷ Γ)
  locals (e ∷ E) (h ∷ hs) Γ = locals E hs (cell e.0 e.1 h ∷ ‵ (fdies e.0 e.1) ∷ Γ)

  -- the first k entries
  abbrev pub front : ℕ → List (Item 𝓤) → List (Item 𝓤)
  front zero Γ = []
  front (suc k) [] = []
  front (suc k) (i ∷ Γ) = i ∷ front k Γ

  -- the rest
  abbrev pub behind : ℕ → List (Item 𝓤) → List (Item 𝓤)
  behind zero Γ = Γ
  behind (suc k) [] = []
  behind (suc k) (i ∷ Γ) = behind k Γ

module _ {M : Type 1} {𝓤 : Ura M} (𝓛 : Logic 𝓤) where
  -- the room of each local, and the right to free it
  open 𝓛 use {H}

  abbrev Rooms : Env 𝓤 H → SProp 𝓤
  Rooms [] = emp 𝓤
  Rooms (e ∷ E) = sep 𝓤 (sep 𝓤 (H.room e.0 e.1 zero) (H.dies e.0 e.1)) (Rooms E)

  -- a cell is room, whatever it holds
  emptied : (τ : Ty) (b : ℕ) (h : Held) → ent 𝓤 (mean 𝓛 (cell τ b h)) (H.room τ b zero)
  emptied τ b (full v) = 𝓛.laws.at_room τ b zero v
  emptied τ b void = id⊢ 𝓤 (H.room τ b zero)

  -- one local is taken out of the front
  one : (X : SProp 𝓤) (τ : Ty) (b : ℕ) (h : Held) (Γ : List (Item 𝓤)) → ent 𝓤 (sep 𝓤 X (⋆ 𝓛 (cell τ b h ∷ ‵ (fdies τ b) ∷ Γ))) (sep 𝓤 (sep 𝓤 (sep 𝓤 (H.room τ b zero) (H.dies τ b)) X) (⋆ 𝓛 Γ))
  one X τ b h Γ =
      qed 𝓛 (raw X ∷ cell τ b h ∷ raw (⋆ 𝓛 (‵ (fdies τ b) ∷ Γ)) ∷ []) ∵ move ! (2 ∷ []) $ use1 𝓛 (‵ (fdies τ b) ⊛ raw (⋆ 𝓛 Γ)) (pop 𝓛 (‵ (fdies τ b)) Γ) $ split ! $
      -- [what frees it; the rest; X; the cell]
      move ! (3 ∷ []) $ use1 𝓛 (‵ (froom τ b zero)) (emptied τ b h) $ move ! (0 ∷ 1 ∷ 3 ∷ []) $ join ! $ join ! $ done !

  -- all locals are
  gathers : (E : Env 𝓤 H) (hs : List Held) (Γ : List (Item 𝓤)) → ent 𝓤 (⋆ 𝓛 (locals E hs Γ)) (sep 𝓤 (Rooms E) (⋆ 𝓛 Γ))
  gathers [] hs Γ = emp∗ 𝓤 (⋆ 𝓛 Γ)
  gathers (e ∷ E) [] Γ = via 𝓤 _ (gathers E [] (cell e.0 e.1 void ∷ ‵ (fdies e.0 e.1) ∷ Γ)) (one (Rooms E) e.0 e.1 void Γ)
  gathers (e ∷ E) (h ∷ hs) Γ = via 𝓤 _ (gathers E hs (cell e.0 e.1 h ∷ ‵ (fdies e.0 e.1) ∷ Γ)) (one (Rooms E) e.0 e.1 h Γ)

  -- and are freed
  releases : (E : Env 𝓤 H) (P Q : SProp 𝓤) → ent 𝓤 Q P → ent 𝓤 (sep 𝓤 (Rooms E) Q) (release 𝓤 H E P)
  releases [] P Q h = via 𝓤 Q (snd∗ 𝓤 (emp 𝓤) Q) h
  releases (e ∷ E) P Q h =
      let one_room : SProp 𝓤 = sep 𝓤 (H.room e.0 e.1 zero) (H.dies e.0 e.1) in
      via 𝓤 (sep 𝓤 one_room (sep 𝓤 (Rooms E) Q)) (assoc∗ 𝓤 one_room (Rooms E) Q) (mono_r 𝓤 one_room (releases E P Q h))

  -- a context is its first k entries and the rest
  cuts : (k : ℕ) (Γ : List (Item 𝓤)) → ent 𝓤 (⋆ 𝓛 Γ) (sep 𝓤 (⋆ 𝓛 (front k Γ)) (⋆ 𝓛 (behind k Γ)))
  cuts zero Γ = emp∗ 𝓤 (⋆ 𝓛 Γ)
  cuts (suc k) [] = emp∗ 𝓤 (emp 𝓤)
  cuts (suc k) (i ∷ Γ) =
      via 𝓤 (sep 𝓤 (mean 𝓛 i) (⋆ 𝓛 Γ)) (pop 𝓛 i Γ)
      (via 𝓤 (sep 𝓤 (mean 𝓛 i) (sep 𝓤 (⋆ 𝓛 (front k Γ)) (⋆ 𝓛 (behind k Γ)))) (mono_r 𝓤 (mean 𝓛 i) (cuts k Γ))
      (via 𝓤 (sep 𝓤 (sep 𝓤 (mean 𝓛 i) (⋆ 𝓛 (front k Γ))) (⋆ 𝓛 (behind k Γ))) (assoc' 𝓤 (mean 𝓛 i) (⋆ 𝓛 (front k Γ)) (⋆ 𝓛 (behind k Γ)))
      (mono_l 𝓤 (⋆ 𝓛 (behind k Γ)) (push 𝓛 i (front k Γ)))))

  -- the locals behind the first k entries are freed
  pub freed : (k : ℕ) (Γ : List (Item 𝓤)) (E : Env 𝓤 H) (hs : List Held) → behind k Γ ≡ locals E hs [] → (P : SProp 𝓤) → ent 𝓤 (⋆ 𝓛 (front k Γ)) P → ent 𝓤 (⋆ 𝓛 Γ) (release 𝓤 H E P)
  freed k Γ E hs e P h =
      via 𝓤 (sep 𝓤 (⋆ 𝓛 (front k Γ)) (⋆ 𝓛 (behind k Γ))) (cuts k Γ)
      (via 𝓤 (sep 𝓤 (⋆ 𝓛 (behind k Γ)) (⋆ 𝓛 (front k Γ))) (comm∗ 𝓤 (⋆ 𝓛 (front k Γ)) (⋆ 𝓛 (behind k Γ)))
      (via 𝓤 (sep 𝓤 (Rooms E) (⋆ 𝓛 (front k Γ)))
      (mono_l 𝓤 (⋆ 𝓛 (front k Γ)) (subst (λ (L : List (Item 𝓤)). ent 𝓤 (⋆ 𝓛 L) (Rooms E)) (sym e) (via 𝓤 (sep 𝓤 (Rooms E) (emp 𝓤)) (gathers E hs []) (via 𝓤 (sep 𝓤 (emp 𝓤) (Rooms E)) (comm∗ 𝓤 (Rooms E) (emp 𝓤)) (snd∗ 𝓤 (emp 𝓤) (Rooms E))))))
      (releases E P (⋆ 𝓛 (front k Γ)) h)))

module _ {M : Type 1} {𝓤 : Ura M} {𝓛 : Logic 𝓤} {K : Type 0} {Γ : List (Item 𝓤)} where
  -- the same as a step
  open 𝓛 use {H}

  pub frees_all : K → (k : ℕ) (hs : List Held) {E : Env 𝓤 H} {g : Goal 𝓤 H} → behind k Γ ≡ locals E hs [] → Step K 𝓛 (front k Γ) g Γ (frees E g)
  frees_all t k hs {E} {g} e = step (λ s. record { prf = freed 𝓛 k Γ E hs e (aim 𝓤 H g) s.prf })
