-- Steps of a walk by hand over plain data that is lent by `&mut`, beside those of the logic: what walks by hand share. Assumes `Logic`.
--     opened, closed       a borrow of plain data is opened, which gives its cell at the machine value of what it holds, and closed at another value
--     lends, comes_back    a local is lent by `&mut` for a lifetime that is made for a call, beside the memory, and is a local again, at the last value of the reference
--     calls, last          a function whose result is plain data is called: of what it ensures, the fact and the last values are in hand, at the machine value of the result; of these, the memory's
--     plus, ends           plain arguments are put behind another; a local is given up at the return
--     enters, leaves, leaves-plain     what a function is entered with, one by one, and what it leaves, put together
-- Each takes `Logic` where it is a step. Assumes nothing else.
use Rattle.std.specs.Prelude.{◌≡◌, refl, ℕ, List, [], ◌∷◌}
use Rattle.std.proofs.Common.{sym, ap, subst}
use seplogic.Ra.Ura.{Ura}
use base.Fraction.{full_share}
use mir.Syntax.{Callee, Lifetime, Place, Opd as Operand, Body as Code, Ty, seq, call}
use mir.Val.{Val, vptr}
use base.Logic.{SProp, ent, sep, ex, emp, via, comm∗, emp∗, mono_l, mono_r}
use base.Stored.{Gv}
use base.Fml.{Lft, GName, Share, Fml, ftrue, feq, fsep, fat, fdies, froom, flft, fobs, fauth, fres, fbor, fobor, flent}
use prog.Wp.{Env, Calls, Loops}
use types.Logic.{Logic, sem}
use sound.WpLaws.{FmC}
use contract.Monad.{fact}
use types.Kit.{Goal, runs, lands, frees, Soaks, Post, ◌$◌, ◌∵◌, !, Step, step, Item, ‵, raw, ◌⊛◌, some, later, Seq, ⋆, mean, nth, del, pull, push, qed, move, use1, use2, use3, drop, split, join, pick, fsplit, fsplit3, fjoin, fjoin3, fpick, fpack, feq_l, feq_i, frame, await, done}
use types.Run.{Opds, free1}
use types.SemTy.{Body}
use types.Tokens.{lft_new, lft_end}
use denote.RattleType.{Denots, owns}
use denote.Laws.{Is, shows}
use denote.Memory.{cell_at, mem, part_of}
use denote.Ref.{MutRef}
use denote.Lend.{lends_ref, ref_back}
use denote.Steps.{only, opens, closes, owned, peeks, facts, heard}
use denote.Struct.Steps.{spelt}
use denote.Triple.Statement.{Contract, Triple}
use denote.Triple.Call.{calls_at}
use Rattle.lending.specs.Data.{Data, Fits, rows, valuess, AllFit, all_made}

-- what a called function leaves: its tokens, its result, and for some last values what says them and the fact
abbrev pub Answer : {M : Type 1} {𝓤 : Ura M} (𝓛 : Logic 𝓤) (D : Data) (τs : Item 𝓤) (Ws : Type 0) → (Ws → Fml) → (D.row.Denot → Ws → Type 0) → Val → SProp 𝓤
Answer {𝓤 = 𝓤} 𝓛 D τs Ws L φ w = 𝓛.H.⇛ (ex 𝓤 (λ (r : D.row.Denot). sep 𝓤 (sep 𝓤 (mean 𝓛 τs) (sem 𝓛 (D.row.own_val r (w ∷ [])))) (ex 𝓤 (λ (ws : Ws). sep 𝓤 (sem 𝓛 (L ws)) (fact 𝓤 (φ r ws))))))

-- an assertion beside nothing
beside : {M : Type 1} (𝓤 : Ura M) (P : SProp 𝓤) → ent 𝓤 P (sep 𝓤 P (emp 𝓤))
beside 𝓤 P = via 𝓤 (sep 𝓤 (emp 𝓤) P) (emp∗ 𝓤 P) (comm∗ 𝓤 (emp 𝓤) P)

module _ {M : Type 1} {𝓤 : Ura M} (𝓛 : Logic 𝓤) (D : Data) (l : ℕ) (v : Val) where
  -- the cell of a local, as the machine sees it
  as_raw : ent 𝓤 (sem 𝓛 (fat full_share D.mir l 0 v)) (sem 𝓛 (cell_at full_share D.row.mir (v ∷ []) l 0))
  as_raw = subst (λ (τs : List Ty). ent 𝓤 (sem 𝓛 (fat full_share D.mir l 0 v)) (sem 𝓛 (cell_at full_share τs (v ∷ []) l 0))) (sym D.one) (𝓛.laws.at_raw full_share D.mir l 0 v)

  -- and back
  of_raw : ent 𝓤 (sem 𝓛 (cell_at full_share D.row.mir (v ∷ []) l 0)) (sem 𝓛 (fat full_share D.mir l 0 v))
  of_raw = subst (λ (τs : List Ty). ent 𝓤 (sem 𝓛 (cell_at full_share τs (v ∷ []) l 0)) (sem 𝓛 (fat full_share D.mir l 0 v))) (sym D.one) (𝓛.laws.raw_at full_share D.mir l 0 v)

module _ {M : Type 1} {𝓤 : Ura M} {𝓛 : Logic 𝓤} {K : Type 0} {Γ : List (Item 𝓤)} {G : Goal 𝓤 𝓛.H} where
  -- plain arguments are put behind another
  pub plus : K → (Ds : List Data) (a : Denots (rows Ds)) → AllFit Ds a → {P : Fml} → Step K 𝓛 (‵ (fsep P (owns (rows Ds) a (valuess Ds a))) ∷ Γ) G (‵ P ∷ Γ) G
  plus t Ds a gs {P} = step (λ s. use1 𝓛 (‵ (fsep P (owns (rows Ds) a (valuess Ds a)))) (via 𝓤 (sep 𝓤 (sem 𝓛 P) (emp 𝓤)) (beside 𝓤 (sem 𝓛 P)) (mono_r 𝓤 (sem 𝓛 P) (all_made 𝓛 Ds a gs))) $ s)

module _ {M : Type 1} {𝓤 : Ura M} {𝓛 : Logic 𝓤} {K : Type 0} {Γ : List (Item 𝓤)} {G : Goal 𝓤 𝓛.H} where
  module _ (t : K) (z : Soaks G) (D : Data) where
    module _ {κ : Lft} {q : Share} {γ : GName} (b o : ℕ) where
      -- a borrow is opened at the value that it holds
      pub opened : (h : D.row.Denot)
          → (Fits D h → Seq K 𝓛 (‵ (cell_at full_share D.row.mir (D.val h ∷ []) b o) ∷ ‵ (fobor κ q (Body (mem D.row) b o γ)) ∷ ‵ (fobs γ (D.row.coded.code h)) ∷ ‵ (fauth γ (D.row.coded.code h)) ∷ Γ) G)
          → Seq K 𝓛 (‵ (fobs γ (D.row.coded.code h)) ∷ ‵ (fbor κ (Body (mem D.row) b o γ)) ∷ ‵ (flft κ q) ∷ Γ) G
      opened h k =
          opens t z D.row b o (λ vs. spelt t D.row (Is D.row) (shows 𝓛 D.row) (λ x. D.val x ∷ []) D.tells full_share h vs b o $
          move t (1 ∷ []) $ facts t D.row (Is D.row) (shows 𝓛 D.row) h (D.val h ∷ []) k)

      -- and closed at another
      pub closed : {u v : Gv} (r : D.row.Denot) → Fits D r
          → Step K 𝓛 (‵ (fobs γ (D.row.coded.code r)) ∷ ‵ (fbor κ (Body (mem D.row) b o γ)) ∷ ‵ (flft κ q) ∷ Γ) G
          (‵ (cell_at full_share D.row.mir (D.val r ∷ []) b o) ∷ ‵ (fobor κ q (Body (mem D.row) b o γ)) ∷ ‵ (fobs γ u) ∷ ‵ (fauth γ v) ∷ Γ) G
      closed r g = step (λ s. owned t D.row (Is D.row) (D.makes 𝓛) r (D.val r ∷ []) g $ move t (1 ∷ 0 ∷ []) $ closes t z D.row r (D.val r ∷ []) b o $ s)

    module _ (l : ℕ) where
      -- a local is lent for a lifetime that is made for a call: beside the memory S, whose token is there, and before the plain arguments of the call
      pub lends : (ℓ : Lifetime) (h : D.row.Denot) → Fits D h → (Ds : List Data) (a : Denots (rows Ds)) → AllFit Ds a → {κ : Lft} {q : Share} {S : Fml}
          → ((α : ℕ) (δ : GName) → Seq K 𝓛 ((‵ (flft κ q) ⊛ ‵ (flft (α ∷ []) full_share) ⊛ ‵ ftrue)
          ∷ ‵ (fsep S (fsep ((MutRef ℓ (α ∷ []) D.row).own_val (record { ref_ptr = (l, 0); ghost_name = δ; now = h }) (vptr l 0 ∷ [])) (owns (rows Ds) a (valuess Ds a)))) ∷ ‵ (flent (α ∷ []) (Body (mem D.row) l 0 δ)) ∷ Γ) G)
          → Seq K 𝓛 (‵ (fat full_share D.mir l 0 (D.val h)) ∷ (‵ (flft κ q) ⊛ ‵ ftrue) ∷ ‵ S ∷ Γ) G
      unfolding part_of
      lends ℓ h g Ds a gs k =
          use1 𝓛 (‵ (cell_at full_share D.row.mir (D.val h ∷ []) l 0)) (as_raw 𝓛 D l (D.val h)) $ owned t D.row (Is D.row) (D.makes 𝓛) h (D.val h ∷ []) g $ move t (1 ∷ 0 ∷ []) $ fjoin t $
          fpack t (List Val) (λ us. fsep (cell_at full_share D.row.mir us l 0) (D.row.own_val h us)) (D.val h ∷ []) $ lft_new t z (λ α. move t (1 ∷ []) $
          use1 𝓛 (later (some (λ (δ : GName). ‵ ((MutRef ℓ (α ∷ []) D.row).own_val (record { ref_ptr = (l, 0); ghost_name = δ; now = h }) (vptr l 0 ∷ [])) ⊛ ‵ (flent (α ∷ []) (Body (mem D.row) l 0 δ))))) (lends_ref 𝓛 D.row ℓ (α ∷ []) h l 0) $
          await t z $ pick t (λ δ. split t $ plus t Ds a gs $
          -- [the reference and the arguments; the lender's part; the token of α; the memory's token; the memory]
          move t (4 ∷ 0 ∷ []) $ fjoin t $ move t (3 ∷ []) $ split t $ move t (4 ∷ 1 ∷ []) $ join t $ move t (1 ∷ 0 ∷ []) $ join t $ k α δ))

      -- and is a local again, at the last value of the reference
      pub comes_back : {κ : Lft} {q : Share} {α : ℕ} {δ : GName} {F P : Fml} {m n : ℕ} (r : D.row.Denot) → (m ≡ n → Fits D r → Seq K 𝓛 (‵ (fat full_share D.mir l 0 (D.val r)) ∷ (‵ (flft κ q) ⊛ ‵ ftrue) ∷ ‵ F ∷ Γ) G)
          → Seq K 𝓛 ((‵ (flft κ q) ⊛ ‵ (flft (α ∷ []) full_share) ⊛ ‵ ftrue) ∷ ‵ (fsep (fsep F (feq ℕ m n)) (fsep (fres δ (D.row.coded.code r)) P)) ∷ ‵ (flent (α ∷ []) (Body (mem D.row) l 0 δ)) ∷ Γ) G
      unfolding part_of
      comes_back {α = α} {δ} r k =
          split t $ move t (1 ∷ []) $ split t $ move t (2 ∷ 1 ∷ []) $ join t $ move t (2 ∷ []) $ fsplit t $ fsplit t $ move t (1 ∷ []) $ feq_l t (λ e. move t (1 ∷ []) $ fsplit t $
          -- [what says the last value; …; the memory's last cells; the memory's token; the token of α; the lender's part]
          move t (4 ∷ 5 ∷ 0 ∷ 3 ∷ 2 ∷ 1 ∷ []) $
          lft_end t z $ use3 𝓛 (later (‵ ((mem D.row).own_at r l 0))) (ref_back 𝓛 D.row (α ∷ []) δ r l 0) $ await t z $ fpick t (λ vs. fsplit t $
          spelt t D.row (Is D.row) (shows 𝓛 D.row) (λ x. D.val x ∷ []) D.tells full_share r vs l 0 $ move t (1 ∷ []) $ facts t D.row (Is D.row) (shows 𝓛 D.row) r (D.val r ∷ []) (λ g.
          use1 𝓛 (‵ (fat full_share D.mir l 0 (D.val r))) (of_raw 𝓛 D l (D.val r)) $ move t (3 ∷ []) $ drop t $ k e g)))

module _ {M : Type 1} {𝓤 : Ura M} {𝓛 : Logic 𝓤} {K : Type 0} {Γ : List (Item 𝓤)} where
  -- a function whose result is plain data is called
  open 𝓛 use {H}

  pub calls : K → {E : Env 𝓤 H} {C : Calls 𝓤 H} {Λ : Loops 𝓤 H} {f : Callee} {xs : List Operand} {d : Place} {rest : Code} {q : Post 𝓤 H} → FmC 𝓤 H 𝓛.laws C
      → (c : Contract 𝓤) → Triple 𝓤 (C f) c → (x : c.Ghost) (τs : Item 𝓤) (P : Fml) → ent 𝓤 (sep 𝓤 (sep 𝓤 (mean 𝓛 τs) (sem 𝓛 P)) (emp 𝓤)) (c.pre x)
      → (D : Data) (Ws : Type 0) (L : Ws → Fml) (φ : D.row.Denot → Ws → Type 0) → ((w : Val) → ent 𝓤 (c.post x w) (Answer 𝓛 D τs Ws L φ w))
      → Opds K 𝓛 (raw (c.pre x) ∷ Γ) E xs (c.args x) → ((r : D.row.Denot) (ws : Ws) → Fits D r → φ r ws → Seq K 𝓛 (τs ∷ ‵ (L ws) ∷ Γ) (lands C Λ E d (D.val r) rest q))
      → Seq K 𝓛 (τs ∷ ‵ P ∷ Γ) (runs C Λ E (seq (call f xs d) rest) q)
  calls t {E} {C} {Λ} {d = d} {rest} {q} fm c known x τs P asks D Ws L φ answers os k =
      use2 𝓛 (raw (c.pre x)) (via 𝓤 _ (beside 𝓤 (sep 𝓤 (mean 𝓛 τs) (sem 𝓛 P))) asks) $ calls_at t fm c known x os (λ w.
      use1 𝓛 (later (some (λ (r : D.row.Denot). (τs ⊛ ‵ (D.row.own_val r (w ∷ []))) ⊛ some (λ (ws : Ws). ‵ (L ws) ⊛ raw (fact 𝓤 (φ r ws)))))) (answers w) $ await t tt $ pick t (λ r.
      split t $ move t (1 ∷ []) $ pick t (λ ws. split t $ move t (1 ∷ []) $ heard t (φ r ws) (λ p. move t (1 ∷ []) $ split t $ move t (1 ∷ []) $
      peeks t D.row (Is D.row) (shows 𝓛 D.row) r (w ∷ []) (λ is. drop t $
      subst (λ (v : Val). Seq K 𝓛 (τs ∷ ‵ (L ws) ∷ Γ) (lands C Λ E d v rest q)) (sym (ap only (D.tells r (w ∷ []) is)))
      (k r ws (subst (λ (vs : List Val). Is D.row r vs) (D.tells r (w ∷ []) is) is) p))))))

  -- of what a called function says of last values, that of the memory
  pub last : K → {G : Goal 𝓤 H} {τs : Item 𝓤} {F P : Fml} {m n : ℕ} → (m ≡ n → Seq K 𝓛 (τs ∷ ‵ F ∷ Γ) G) → Seq K 𝓛 (τs ∷ ‵ (fsep (fsep F (feq ℕ m n)) P) ∷ Γ) G
  last t k = move t (1 ∷ []) $ fsplit t $ fsplit t $ move t (1 ∷ []) $ feq_l t (λ e. move t (1 ∷ []) $ drop t $ move t (1 ∷ 0 ∷ []) $ k e)

  -- a local is given up at the return
  pub ends : K → (n : ℕ) {τ : Ty} {b : ℕ} {v : Val} {E : Env 𝓤 H} {g : Goal 𝓤 H} → nth 𝓛 n Γ ≡ ‵ (fat full_share τ b 0 v) → nth 𝓛 n (del 𝓛 n Γ) ≡ ‵ (fdies τ b)
      → Step K 𝓛 (del 𝓛 n (del 𝓛 n Γ)) (frees E g) Γ (frees ((τ, b) ∷ E) g)
  ends t n {τ} {b} {v} e₁ e₂ = step (λ s.
      let Γ₁ = del 𝓛 n Γ in
      let Γ₂ = del 𝓛 n Γ₁ in
      record {
        prf =
            via 𝓤 (sep 𝓤 (H.at full_share τ b 0 v) (⋆ 𝓛 Γ₁)) (subst (λ (j : Item 𝓤). ent 𝓤 (⋆ 𝓛 Γ) (sep 𝓤 (mean 𝓛 j) (⋆ 𝓛 Γ₁))) e₁ (pull 𝓛 n Γ))
            (via 𝓤 (sep 𝓤 (H.room τ b 0) (⋆ 𝓛 Γ₁)) (mono_l 𝓤 (⋆ 𝓛 Γ₁) (𝓛.laws.at_room τ b 0 v))
            (via 𝓤 (sep 𝓤 (H.room τ b 0) (sep 𝓤 (H.dies τ b) (⋆ 𝓛 Γ₂))) (mono_r 𝓤 (H.room τ b 0) (subst (λ (j : Item 𝓤). ent 𝓤 (⋆ 𝓛 Γ₁) (sep 𝓤 (mean 𝓛 j) (⋆ 𝓛 Γ₂))) e₂ (pull 𝓛 n Γ₁)))
            (via 𝓤 (sep 𝓤 (H.room τ b 0) (⋆ 𝓛 (‵ (fdies τ b) ∷ Γ₂))) (mono_r 𝓤 (H.room τ b 0) (push 𝓛 (‵ (fdies τ b)) Γ₂))
            (via 𝓤 (⋆ 𝓛 (‵ (froom τ b 0) ∷ ‵ (fdies τ b) ∷ Γ₂)) (push 𝓛 (‵ (froom τ b 0)) (‵ (fdies τ b) ∷ Γ₂)) (free1 t $ s).prf))));
      })

  -- what a function with a lent value is entered with, one by one
  pub enters : K → {G : Goal 𝓤 H} (D : Data) {κ κ' : Lft} {q q' : Share} (ℓ : Lifetime) (b o : ℕ) (γ : GName) (h : D.row.Denot) {S P : Fml}
      → Step K 𝓛 (‵ (fobs γ (D.row.coded.code h)) ∷ ‵ (fbor κ' (Body (mem D.row) b o γ)) ∷ ‵ (flft κ' q') ∷ (‵ (flft κ q) ⊛ ‵ ftrue) ∷ ‵ S ∷ Γ) G
      ((‵ (flft κ q) ⊛ ‵ (flft κ' q') ⊛ ‵ ftrue) ∷ ‵ (fsep S (fsep ((MutRef ℓ κ' D.row).own_val (record { ref_ptr = (b, o); ghost_name = γ; now = h }) (vptr b o ∷ [])) P)) ∷ Γ) G
  enters t D ℓ b o γ h = step (λ s. move t (1 ∷ []) $ fsplit t $ move t (1 ∷ []) $ fsplit t $ fsplit3 t $ drop t $ move t (4 ∷ []) $ split t $ move t (1 ∷ []) $ split t $ move t (2 ∷ 1 ∷ []) $ join t $ move t (4 ∷ 2 ∷ 3 ∷ 1 ∷ 0 ∷ 5 ∷ []) $ drop t $ s)

module _ {M : Type 1} {𝓤 : Ura M} (𝓛 : Logic 𝓤) (Ds : List Data) (a : Denots (rows Ds)) (gs : AllFit Ds a) (Res : Data) (x : Res.row.Denot) (gx : Fits Res x) (κ : Lft) (q : Share) (F : Fml) where
  -- what a function with a lent value leaves, put together: the tokens, the memory's last cells, the borrow at its last value, and the plain arguments and result
  open 𝓛 use {A}

  pub leaves : (D : Data) (κ' : Lft) (q' : Share) (ℓ : Lifetime) (b o : ℕ) (γ : GName) (r : D.row.Denot)
      → ent 𝓤 (⋆ 𝓛 (‵ (fobs γ (D.row.coded.code r)) ∷ ‵ (fbor κ' (Body (mem D.row) b o γ)) ∷ ‵ (flft κ' q') ∷ (‵ (flft κ q) ⊛ ‵ ftrue) ∷ ‵ F ∷ []))
      (sep 𝓤 (sep 𝓤 (A.lft κ q) (sep 𝓤 (A.lft κ' q') (emp 𝓤)))
      (sep 𝓤 (sem 𝓛 (fsep F (fsep ((MutRef ℓ κ' D.row).own_val (record { ref_ptr = (b, o); ghost_name = γ; now = r }) (vptr b o ∷ [])) (owns (rows Ds) a (valuess Ds a))))) (sem 𝓛 (Res.row.own_val x (Res.val x ∷ [])))))
  leaves D κ' q' ℓ b o γ r =
      qed 𝓛 (‵ (fobs γ (D.row.coded.code r)) ∷ ‵ (fbor κ' (Body (mem D.row) b o γ)) ∷ ‵ (flft κ' q') ∷ (‵ (flft κ q) ⊛ ‵ ftrue) ∷ ‵ F ∷ []) ∵
      move ! (3 ∷ []) $ split ! $ move ! (4 ∷ 1 ∷ []) $ join ! $ move ! (1 ∷ 0 ∷ []) $ join ! $ frame ! $ feq_i ! (List Val) (vptr b o ∷ []) (vptr b o ∷ []) refl $ fjoin3 ! $ plus ! Ds a gs $ move ! (1 ∷ 0 ∷ []) $ fjoin ! $
      owned ! Res.row (Is Res.row) (Res.makes 𝓛) x (Res.val x ∷ []) gx $ move ! (1 ∷ 0 ∷ []) $ done !

  -- the same of a function whose arguments behind the memory are all plain
  pub leaves_plain : ent 𝓤 (⋆ 𝓛 ((‵ (flft κ q) ⊛ ‵ ftrue) ∷ ‵ F ∷ []))
      (sep 𝓤 (sep 𝓤 (A.lft κ q) (emp 𝓤)) (sep 𝓤 (sem 𝓛 (fsep F (owns (rows Ds) a (valuess Ds a)))) (sem 𝓛 (Res.row.own_val x (Res.val x ∷ [])))))
  leaves_plain = qed 𝓛 ((‵ (flft κ q) ⊛ ‵ ftrue) ∷ ‵ F ∷ []) ∵ frame ! $ plus ! Ds a gs $ owned ! Res.row (Is Res.row) (Res.makes 𝓛) x (Res.val x ∷ []) gx $ move ! (1 ∷ 0 ∷ []) $ done !
