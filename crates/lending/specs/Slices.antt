-- A `&κ mut [T]` that is lent for a lifetime κ' of a call and comes back: as a `&κ' mut [T]`, at its last list, or as a `&κ' [T]`, as it was. Assumes `Logic`.
--     Kept             what the holder keeps of the open borrow at κ meanwhile: the borrow, and both halves of its ghost variable
--     opened, closed   own (the `&κ mut [T]` ((b, o), γ, ys)) ∗ [κ]_q  ⊢ ⇛ (⌜Room⌝ ∗ the elements ∗ Kept),        and back at a list of the same length
--     LentAgain, lends_again, comes_back        it is lent as a `&mut`, under the name γ₁, and comes back at zs
--     LentShared, lends_shared, shared_back     it is lent as a `&`, and comes back at ys; lends_shared_whole and lends_shared_by for plain data and by the elements' own law, lends_whole for every type, without what a `&` holds of each element
use Rattle.std.specs.Prelude.{◌≡◌, refl, ℕ, ◌+◌, List, [], ◌∷◌, length}
use Rattle.std.proofs.Common.{sym, ap, subst}
use seplogic.Ra.Ura.{Ura}
use base.Fraction.{full_share}
use mir.Syntax.{Lifetime}
use mir.Val.{Val}
use base.Logic.{ent, sep, ex}
use base.Fml.{Lft, GName, Share, Fml, Incl, fsep, feq, flft, fdead, fobs, fauth, flent, fobor, fhide, fshr_bor}
use ghost.Rules.{Toks, span}
use types.Logic.{Logic, sem, lfts}
use types.Kit.{‵, raw, ◌⊛◌, some, given, mean, later, ◌$◌, ◌∵◌, !, qed, move, use1, use2, use3, drop, split, pick, learn, fsplit, fjoin, feq_i, frame, await, updating, now as at_once, show, check as checks, done}
use types.SemTy.{cells, Arr}
use types.Share.{arr_parts}
use types.Tokens.{lent_back}
use Rattle.std.specs.Borrow.{RattleType, MutBor}
use denote.Lends.{Lent as LentFree, Lent-nothing, Lent-one, Lent-both, lent_cut}
use denote.Shadow.{pure_l, pure_i}
use denote.Shares.{SharesAsFrom, Whole as SharedWhole}
use denote.Memory.{part_at, mem, shares, shared_of}
use denote.Slice.{slice_val, MutSlice, ShrSlice, heres, Room, finally, shr_slice_at, mut_slice_at, coded_holeys, elements_shared}
use denote.Lend.{Held, lends_slice, slice_back, lends_shr_slice}
use denote.Index.{row, whole_out, whole_in, opens_slice, closes_slice}

module _ (R : RattleType) (κ : Lft) (q : Share) (γ : GName) (b o : ℕ) where
  -- the slice under a name, at a list
  abbrev slice : GName → List R.Denot → MutBor (List R.Denot)
  slice δ ys = record { ref_ptr = (b, o); ghost_name = δ; now = ys }

  -- its machine value
  abbrev value : List R.Denot → List Val
  value ys = slice_val (b, o) (length ys) ∷ []

  -- what the holder keeps while the borrow is open at ys
  abbrev pub Kept : List R.Denot → Fml
  Kept ys = fsep (fobor κ q (Held R (length ys) b o γ)) (fsep (fobs γ ((coded_holeys R).code (heres R ys))) (fauth γ ((coded_holeys R).code (heres R ys))))

  module _ {M : Type 1} {𝓤 : Ura M} (𝓛 : Logic 𝓤) (ℓ : Lifetime) (ys : List R.Denot) where
    -- the borrow is opened
    open 𝓛 use {H, A}

    opened : ent 𝓤 (sep 𝓤 (sem 𝓛 ((MutSlice ℓ κ R).own_val (slice γ ys) (value ys))) (A.lft κ q)) (mean 𝓛 (later (given (Room R (length ys)) (‵ (row R full_share ys b o) ⊛ ‵ (Kept ys)))))
    opened =
        qed 𝓛 (‵ ((MutSlice ℓ κ R).own_val (slice γ ys) (value ys)) ∷ ‵ (flft κ q) ∷ []) ∵ updating ! $ fsplit ! $ pure_l ! (mut_slice_at R (slice γ ys) (value ys)) (λ p. fsplit ! $ opens_slice ! tt R ys b o $
        -- [the elements; the open borrow; obs; auth]
        at_once ! $ checks ! p.1 $ frame ! $ move ! (1 ∷ 2 ∷ []) $ fjoin ! $ move ! (1 ∷ 0 ∷ []) $ fjoin ! $ done !)

    -- it is closed at a list of the same length
    closed : (zs : List R.Denot) → Room R (length ys) → length zs ≡ length ys
        → ent 𝓤 (sep 𝓤 (sem 𝓛 (row R full_share zs b o)) (sem 𝓛 (Kept ys))) (H.⇛ (sep 𝓤 (sem 𝓛 ((MutSlice ℓ κ R).own_val (slice γ zs) (value ys))) (A.lft κ q)))
    closed zs room e =
        qed 𝓛 (‵ (row R full_share zs b o) ∷ ‵ (Kept ys) ∷ []) ∵ updating ! $ move ! (1 ∷ []) $ fsplit ! $ move ! (1 ∷ []) $ fsplit ! $ move ! (3 ∷ 2 ∷ 0 ∷ 1 ∷ []) $ closes_slice ! tt R ys zs e b o $ at_once ! $
        fjoin ! $ pure_i ! (mut_slice_at R (slice γ zs) (value ys)) (tt, (tt, tt)) (ap (λ (m : ℕ). slice_val (b, o) m ∷ []) (sym e), subst (Room R) (sym e) room) $ fjoin ! $ done !

module _ (R : RattleType) (κ κ' : Lft) (q : Share) (γ : GName) (b o : ℕ) where
  -- what the holder keeps while the slice is lent again under a name: the lender's part at κ', and the open borrow
  abbrev pub LentAgain : GName → List R.Denot → Fml
  LentAgain δ ys = fsep (flent κ' (Held R (length ys) b o δ)) (Kept R κ q γ b o ys)

  module _ {M : Type 1} {𝓤 : Ura M} (𝓛 : Logic 𝓤) (ℓ ℓ' : Lifetime) (ys : List R.Denot) where
    -- the elements are lent for writing
    open 𝓛 use {H, A}

    pub lends_again : ent 𝓤 (sep 𝓤 (sem 𝓛 ((MutSlice ℓ κ R).own_val (slice R κ q γ b o γ ys) (value R κ q γ b o ys))) (A.lft κ q))
        (H.⇛ (ex 𝓤 (λ (δ : GName). sep 𝓤 (sem 𝓛 ((MutSlice ℓ' κ' R).own_val (slice R κ q γ b o δ ys) (value R κ q γ b o ys))) (sem 𝓛 (LentAgain δ ys)))))
    lends_again =
        qed 𝓛 (‵ ((MutSlice ℓ κ R).own_val (slice R κ q γ b o γ ys) (value R κ q γ b o ys)) ∷ ‵ (flft κ q) ∷ []) ∵ updating ! $
        use2 𝓛 (later (given (Room R (length ys)) (‵ (row R full_share ys b o) ⊛ ‵ (Kept R κ q γ b o ys)))) (opened R κ q γ b o 𝓛 ℓ ys) $ await ! tt $ learn ! (λ room. split ! $
        use1 𝓛 (‵ (cells (mem R) ys b o)) (whole_in 𝓛 R ys b o) $
        use1 𝓛 (later (some (λ (δ : GName). ‵ ((MutSlice ℓ' κ' R).own_val (slice R κ q γ b o δ ys) (value R κ q γ b o ys)) ⊛ ‵ (flent κ' (Held R (length ys) b o δ))))) (lends_slice 𝓛 R ℓ' κ' ys b o room) $ await ! tt $ pick ! (λ δ. split ! $
        -- [the new slice; the lender's part at κ'; the open borrow at κ]
        at_once ! $ show ! (λ (δ' : GName). sep 𝓤 (sem 𝓛 ((MutSlice ℓ' κ' R).own_val (slice R κ q γ b o δ' ys) (value R κ q γ b o ys))) (sem 𝓛 (LentAgain δ' ys))) δ $ frame ! $ fjoin ! $ done !))

    -- the lifetime is over, the elements come back as they are now, and the borrow is closed
    pub comes_back : (δ : GName) (zs : List R.Denot) → Room R (length ys) → length zs ≡ length ys
        → ent 𝓤 (sep 𝓤 (A.dead κ') (sep 𝓤 (sem 𝓛 (LentAgain δ ys)) (sem 𝓛 (finally R δ zs)))) (H.⇛ (sep 𝓤 (sem 𝓛 ((MutSlice ℓ κ R).own_val (slice R κ q γ b o γ zs) (value R κ q γ b o ys))) (A.lft κ q)))
    comes_back δ zs room e =
        qed 𝓛 (‵ (fdead κ') ∷ ‵ (LentAgain δ ys) ∷ ‵ (finally R δ zs) ∷ []) ∵ updating ! $ move ! (1 ∷ []) $ fsplit ! $ move ! (2 ∷ 0 ∷ 3 ∷ []) $
        use3 𝓛 (later (‵ ((Arr (mem R) (length ys)).own_at zs b o))) (slice_back 𝓛 R κ' δ zs (length ys) b o) $ await ! tt $ fsplit ! $ drop ! $ use1 𝓛 (‵ (row R full_share zs b o)) (whole_out 𝓛 R zs b o) $
        use2 𝓛 (later (‵ ((MutSlice ℓ κ R).own_val (slice R κ q γ b o γ zs) (value R κ q γ b o ys)) ⊛ ‵ (flft κ q))) (closed R κ q γ b o 𝓛 ℓ ys zs room e) $ await ! tt $ at_once ! $ done !

module _ (R : RattleType) (κ κ' : Lft) (q : Share) (γ : GName) (b o : ℕ) (ys : List R.Denot) where
  -- the whole of the elements, as it is lent for reading
  abbrev Whole : Fml
  Whole = (arr_parts (shares R) (length ys)).part full_share ys b o

  -- the elements, at a share
  abbrev pub Parts : Share → Fml
  Parts s = (arr_parts (shares R) (length ys)).part s ys b o

  -- what the holder keeps while the slice is lent for reading: the lender's part at κ', and the open borrow
  abbrev pub LentShared : Fml
  LentShared = fsep (flent κ' Whole) (Kept R κ q γ b o ys)

  -- how many there are
  abbrev Count : Fml
  Count = feq ℕ (length ys) (length ys)

  module _ {M : Type 1} {𝓤 : Ura M} (𝓛 : Logic 𝓤) (free : (x : R.Denot) (b' o' : ℕ) → LentFree 𝓛 (part_at R full_share x b' o') (shared_of R x b' o')) where
    open 𝓛 use {H, A}

    -- elements side by side are lent as each is
    each_lent : (xs : List R.Denot) (b' o' : ℕ) → LentFree 𝓛 (row R full_share xs b' o') (elements_shared R xs b' o')
    each_lent [] b' o' = Lent-nothing 𝓛
    each_lent (x ∷ xs) b' o' =
        let o₁ : ℕ = o' + (mem R).size in
        Lent-both 𝓛 (part_at R full_share x b' o') (row R full_share xs b' o₁) (shared_of R x b' o') (elements_shared R xs b' o₁) (free x b' o') (each_lent xs b' o₁)

    -- with their count
    whole_lent : ent 𝓤 (sem 𝓛 Whole) (H.⇛ (sep 𝓤 (sem 𝓛 (elements_shared R ys b o κ')) (sep 𝓤 (sem 𝓛 Count) (A.lent κ' Whole))))
    whole_lent =
        lent_cut 𝓛 Whole (row R full_share ys b o) Count (elements_shared R ys b o)
        (qed 𝓛 (‵ Whole ∷ []) ∵ fsplit ! $ move ! (1 ∷ 0 ∷ []) $ done !)
        (qed 𝓛 (‵ (row R full_share ys b o) ∷ ‵ Count ∷ []) ∵ move ! (1 ∷ 0 ∷ []) $ fjoin ! $ done !)
        (qed 𝓛 (‵ Count ∷ []) ∵ feq_i ! ℕ (length ys) (length ys) refl $ done !)
        (each_lent ys b o) κ'

  module _ {M : Type 1} {𝓤 : Ura M} (𝓛 : Logic 𝓤) (ℓ ℓ' : Lifetime) where
    -- the elements are lent for reading, each as its type is lent: with no token, as all that can be copied is
    open 𝓛 use {H, A}

    pub lends_shared : ((x : R.Denot) (b' o' : ℕ) → LentFree 𝓛 (part_at R full_share x b' o') (shared_of R x b' o'))
        → ent 𝓤 (sep 𝓤 (sem 𝓛 ((MutSlice ℓ κ R).own_val (slice R κ q γ b o γ ys) (value R κ q γ b o ys))) (A.lft κ q))
        (H.⇛ (sep 𝓤 (sem 𝓛 ((ShrSlice ℓ' κ' R).own_val (record { ref_ptr = (b, o); now = ys }) (value R κ q γ b o ys))) (sem 𝓛 LentShared)))
    lends_shared free =
        qed 𝓛 (‵ ((MutSlice ℓ κ R).own_val (slice R κ q γ b o γ ys) (value R κ q γ b o ys)) ∷ ‵ (flft κ q) ∷ []) ∵ updating ! $
        use2 𝓛 (later (given (Room R (length ys)) (‵ (row R full_share ys b o) ⊛ ‵ (Kept R κ q γ b o ys)))) (opened R κ q γ b o 𝓛 ℓ ys) $ await ! tt $ learn ! (λ room. split ! $
        feq_i ! ℕ (length ys) (length ys) refl $ fjoin ! $
        use1 𝓛 (later (‵ (fhide (elements_shared R ys b o κ')) ⊛ (‵ Count ⊛ ‵ (flent κ' Whole)))) (whole_lent 𝓛 free) $ await ! tt $ split ! $ move ! (1 ∷ []) $ split ! $ drop ! $
        -- [the lender's part at κ'; what the reference holds of the elements; the open borrow at κ]
        move ! (1 ∷ []) $ pure_i ! (shr_slice_at R (record { ref_ptr = (b, o); now = ys }) (value R κ q γ b o ys)) (tt, (tt, tt)) (refl, room) $ fjoin ! $ at_once ! $ frame ! $ fjoin ! $ done !)

    -- for every type: the whole of the elements is lent as one, behind a shared borrow for κ', and what a `&` says of the slice itself is known
    pub lends_whole : ent 𝓤 (sep 𝓤 (sem 𝓛 ((MutSlice ℓ κ R).own_val (slice R κ q γ b o γ ys) (value R κ q γ b o ys))) (A.lft κ q))
        (H.⇛ (sep 𝓤 (sem 𝓛 (shr_slice_at R (record { ref_ptr = (b, o); now = ys }) (value R κ q γ b o ys))) (sep 𝓤 (sem 𝓛 (fshr_bor κ' Parts)) (sem 𝓛 LentShared))))
    lends_whole =
        qed 𝓛 (‵ ((MutSlice ℓ κ R).own_val (slice R κ q γ b o γ ys) (value R κ q γ b o ys)) ∷ ‵ (flft κ q) ∷ []) ∵ updating ! $
        use2 𝓛 (later (given (Room R (length ys)) (‵ (row R full_share ys b o) ⊛ ‵ (Kept R κ q γ b o ys)))) (opened R κ q γ b o 𝓛 ℓ ys) $ await ! tt $ learn ! (λ room. split ! $
        feq_i ! ℕ (length ys) (length ys) refl $ fjoin ! $
        use1 𝓛 (later (‵ (fshr_bor κ' Parts) ⊛ ‵ (flent κ' Whole))) (Lent-one 𝓛 Parts full_share κ') $ await ! tt $ split ! $
        -- [the shared borrow; the lender's part at κ'; the open borrow at κ]
        pure_i ! (shr_slice_at R (record { ref_ptr = (b, o); now = ys }) (value R κ q γ b o ys)) (tt, (tt, tt)) (refl, room) $ at_once ! $ frame ! $ frame ! $ fjoin ! $ done !)

    -- data that is shared whole, as numbers are, has the law of `lends_shared`
    pub lends_shared_whole : SharedWhole R
        → ent 𝓤 (sep 𝓤 (sem 𝓛 ((MutSlice ℓ κ R).own_val (slice R κ q γ b o γ ys) (value R κ q γ b o ys))) (A.lft κ q))
        (H.⇛ (sep 𝓤 (sem 𝓛 ((ShrSlice ℓ' κ' R).own_val (record { ref_ptr = (b, o); now = ys }) (value R κ q γ b o ys))) (sem 𝓛 LentShared)))
    lends_shared_whole whole =
        lends_shared (λ x b' o'. subst (LentFree 𝓛 (part_at R full_share x b' o')) (sym (whole x b' o')) (Lent-one 𝓛 (λ s. part_at R s x b' o') full_share))

    -- the elements are lent for reading by their type's law, whatever they are: with tokens, which come back
    pub lends_shared_by : (l : Lft) → SharesAsFrom 𝓛 full_share R (shared_of R) l → (ts : Toks) → Incl (span ts) l → Incl (span ts) κ'
        → ent 𝓤 (sep 𝓤 (sem 𝓛 ((MutSlice ℓ κ R).own_val (slice R κ q γ b o γ ys) (value R κ q γ b o ys))) (sep 𝓤 (A.lft κ q) (lfts 𝓛 ts)))
        (H.⇛ (sep 𝓤 (sem 𝓛 ((ShrSlice ℓ' κ' R).own_val (record { ref_ptr = (b, o); now = ys }) (value R κ q γ b o ys))) (sep 𝓤 (sem 𝓛 LentShared) (lfts 𝓛 ts))))
    lends_shared_by l law ts inside within =
        qed 𝓛 (‵ ((MutSlice ℓ κ R).own_val (slice R κ q γ b o γ ys) (value R κ q γ b o ys)) ∷ ‵ (flft κ q) ∷ raw (lfts 𝓛 ts) ∷ []) ∵ updating ! $
        use2 𝓛 (later (given (Room R (length ys)) (‵ (row R full_share ys b o) ⊛ ‵ (Kept R κ q γ b o ys)))) (opened R κ q γ b o 𝓛 ℓ ys) $ await ! tt $ learn ! (λ room. split ! $
        feq_i ! ℕ (length ys) (length ys) refl $ fjoin ! $ move ! (0 ∷ 2 ∷ []) $
        use2 𝓛 (later ((‵ ((ShrSlice ℓ' κ' R).own_val (record { ref_ptr = (b, o); now = ys }) (value R κ q γ b o ys)) ⊛ ‵ (flent κ' Whole)) ⊛ raw (lfts 𝓛 ts))) (lends_shr_slice 𝓛 R ℓ' κ' full_share ys b o room l law ts inside within) $ await ! tt $ split ! $ split ! $
        -- [the reference; the lender's part at κ'; the tokens; the open borrow at κ]
        at_once ! $ frame ! $ move ! (0 ∷ 2 ∷ []) $ fjoin ! $ done !)

    -- the lifetime is over, the elements come back as they were, and the borrow is closed
    pub shared_back : Room R (length ys) → ent 𝓤 (sep 𝓤 (A.dead κ') (sem 𝓛 LentShared)) (H.⇛ (sep 𝓤 (sem 𝓛 ((MutSlice ℓ κ R).own_val (slice R κ q γ b o γ ys) (value R κ q γ b o ys))) (A.lft κ q)))
    shared_back room =
        qed 𝓛 (‵ (fdead κ') ∷ ‵ LentShared ∷ []) ∵ updating ! $ move ! (1 ∷ []) $ fsplit ! $ move ! (2 ∷ 0 ∷ []) $ lent_back ! tt $ fsplit ! $ drop ! $
        use2 𝓛 (later (‵ ((MutSlice ℓ κ R).own_val (slice R κ q γ b o γ ys) (value R κ q γ b o ys)) ⊛ ‵ (flft κ q))) (closed R κ q γ b o 𝓛 ℓ ys ys room refl) $ await ! tt $ at_once ! $ done !
