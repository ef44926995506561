-- What the proofs of `check` and `report` share: how each hands the errors and the memory to `hand_errors` for good, and what it has after that call. All that they know of `hand_errors` is its contract. Assumes `Logic`.
--     Hand         the contract        to-hand      what its triple binds outside        goes-hand    what it asks        hand-said    what it gives, taken apart        at     the machine value of a slice
use Rattle.std.specs.Prelude.{◌≡◌, ℕ, [], ◌∷◌, List, length}
use seplogic.Ra.Ura.{Ura}
use mir.Syntax.{named}
use mir.Val.{Val, vunit}
use base.Logic.{SProp, ent, id⊢}
use base.Fml.{Lft, Share, ftrue, flft}
use prog.Memory.{Memory}
use prog.Routine.{Routine}
use types.Logic.{Logic}
use contract.Monad.{Fun, fact}
use types.Kit.{Item, mean, ‵, raw, ◌⊛◌, some, given, later, ⋆, ◌$◌, ◌∵◌, !, qed, move, keep, use1, split, join, pick, fsplit, fjoin, feq_l, frame, await, updating, now as at_once, show, check as checks, done}
use denote.Laws.{Is}
use Rattle.std.specs.Borrow.{u16, unit, MutBor}
use denote.Slice.{slice_val, MutSlice, finally}
use denote.Steps.{owned, heard, nothing}
use denote.Enum.Laws as EL
use denote.Triple.Spec.{triple_of}
use denote.Triple.Statement.{Contract}
use denote.Triple.Clauses.{ensured, lasts}
use Rattle.answers.specs.Parts.{HandsErrors}
use Rattle.errors.specs.declared.ErrorRow.{ErrorRow}
use Rattle.answers.specs.declared.Answer.{Answer}
use Rattle.errors.specs.contracts.ErrorRow as E
use Rattle.answers.specs.contracts.Answer as N
use Rattle.answers.proofs.Answer.TheLaws as N'
use Rattle.answers.specs.contracts.hand_errors as hand

-- the contract of `hand_errors`
abbrev pub Hand : {M : Type 1} {𝓤 : Ura M} (𝓛 : Logic 𝓤) (mem : Memory → SProp 𝓤) (run : Routine → Fun 𝓤) → Contract 𝓤
Hand 𝓛 mem run = triple_of 𝓛 hand.signature (hand.spec 𝓛 mem run)

-- the machine value of a slice
abbrev pub at : {X : Type 0} → MutBor (List X) → Val
at x = slice_val x.ref_ptr (length x.now)

module _ (κ κ' : Lft) (q q' : Share) (x : MutBor (List ErrorRow)) (y : MutBor (List ℕ)) (d : Answer) (s p v : Val) where
  module _ {M : Type 1} {𝓤 : Ura M} (𝓛 : Logic 𝓤) (mem : Memory → SProp 𝓤) (run : Routine → Fun 𝓤) where
    -- what its triple binds outside: the lifetimes of the errors and of the memory, and the answer
    abbrev pub to_hand : (Hand 𝓛 mem run).Ghost
    to_hand = (((κ, (κ', tt)), (q, (q', tt)), tt, (x, (y, (d, tt))), (s ∷ [], (p ∷ [], (v ∷ [], tt)))), tt)

    -- what a caller has after it: what says the last errors and the last memory, and that they are handed back
    abbrev pub Given-back : Val → List ErrorRow × List ℕ → Item 𝓤
    Given-back w l = given ((w ∷ [] ≡ vunit ∷ []) × ((length l.0 ≡ length x.now) × ((length l.1 ≡ length y.now) × HandsErrors d x.now y.now l.0 l.1)))
        (‵ (flft κ q) ⊛ ‵ (flft κ' q') ⊛ ‵ (finally E.the_row x.ghost_name l.0) ⊛ ‵ (finally u16 y.ghost_name l.1))

    -- what it asks
    pub goes_hand : Is N.the_row d (v ∷ [])
        → ent 𝓤 (⋆ 𝓛 (‵ (flft κ q) ∷ ‵ (flft κ' q') ∷ ‵ ((MutSlice (named 0) κ E.the_row).own_val x (s ∷ [])) ∷ ‵ ((MutSlice (named 1) κ' u16).own_val y (p ∷ [])) ∷ [])) ((Hand 𝓛 mem run).pre to_hand)
    goes_hand is =
        qed 𝓛 (‵ (flft κ q) ∷ ‵ (flft κ' q') ∷ ‵ ((MutSlice (named 0) κ E.the_row).own_val x (s ∷ [])) ∷ ‵ ((MutSlice (named 1) κ' u16).own_val y (p ∷ [])) ∷ []) ∵
        nothing ! $ owned ! N.the_row (Is N.the_row) (EL.makes N.the_type N'.the_plain 𝓛) d _ is $ fjoin ! $ move ! (4 ∷ 0 ∷ []) $ fjoin ! $ move ! (3 ∷ 0 ∷ []) $ fjoin ! $ nothing ! $ move ! (3 ∷ 0 ∷ []) $ join ! $ move ! (2 ∷ 0 ∷ []) $ join ! $ join ! $ frame ! $ done !

    -- what it gives
    pub hand_said : (w : Val) → ent 𝓤 ((Hand 𝓛 mem run).post to_hand w) (mean 𝓛 (later (some (Given-back w))))
    hand_said w =
        qed 𝓛 (later (some (λ (r : Unit {0}). ((‵ (flft κ q) ⊛ ‵ (flft κ' q') ⊛ ‵ ftrue) ⊛ ‵ (unit.own_val r (w ∷ []))) ⊛ raw (ensured 𝓛 hand.ended (hand.clauses 𝓛 mem run) (κ, (κ', tt)) (x, (y, (d, tt))) tt r))) ∷ []) ∵
        updating ! $ await ! tt $ pick ! (λ r. split ! $ move ! (1 ∷ []) $
        use1 𝓛 (some (λ (zs : List ErrorRow × (List ℕ × (Unit {0} × Unit {0}))). ‵ (lasts hand.ended (κ, (κ', tt)) (x, (y, (d, tt))) zs) ⊛ raw (fact 𝓤 (HandsErrors d x.now y.now zs.0 zs.1.0)))) (id⊢ 𝓤 _) $ pick ! (λ zs.
        split ! $ move ! (1 ∷ []) $ heard ! (HandsErrors d x.now y.now zs.0 zs.1.0) (λ e. fsplit ! $ fsplit ! $ fsplit ! $ move ! (1 ∷ []) $ feq_l ! (λ lu. move ! (2 ∷ []) $ fsplit ! $ fsplit ! $ fsplit ! $ move ! (1 ∷ []) $ feq_l ! (λ lv.
        -- [the last memory; its borrow; true; the last errors; their borrow; the tokens and the result]
        move ! (5 ∷ []) $ split ! $ move ! (1 ∷ []) $ feq_l ! (λ u. split ! $ move ! (1 ∷ []) $ split ! $
        -- [κ'; true; κ; the last memory; its borrow; true; the last errors; their borrow]
        at_once ! $ show ! (λ (l : List ErrorRow × List ℕ). mean 𝓛 (Given-back w l)) (zs.0, zs.1.0) $ checks ! (u, (lu, (lv, e))) $ keep ! (2 ∷ 0 ∷ 6 ∷ 3 ∷ []) $ done !))))))
