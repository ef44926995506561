-- Request n): the search for a shorter set without a common solution, with a number of subsets that it may test. Assumes a test that tells which equations have a common solution (`good`, `bad`).
use Rattle.std.specs.Prelude.{◌≡◌, ◌⊎◌, ◌≢◌, Bool, length}
use Rattle.std.proofs.Math.Path.{refl}
use Rattle.std.proofs.Common.{sym, inl, inr, arith}
use mathlib.Core.List.{List, [], ◌∷◌, ◌++◌, append_assoc, append-nil}
use Rattle.std.proofs.Math.Bool.{true, false}
use Prim.Native.Nat.{ℕ, suc, zero, ◌+◌, ◌-◌, ◌≤◌, ◌<◌}
use Rattle.std.proofs.Math.Decide.{dec_lt}
use Rattle.theory.specs.Basics.{All, all_map}
use Rattle.conflict_theory.specs.Sets.{In, in_left, in_right, in_either, all-at, all_both}
use Rattle.conflict_theory.specs.Deletion.{Solvable, Unsolvable}
use Rattle.conflict_theory.specs.Subsets.{Picks, subsets, sized, Distinct, subset_there, subset_is}
use Rattle.conflict_theory.proofs.Subsets.{subsets_distinct, subsets_all}
use Rattle.conflict_theory.specs.Search.{Outcome, Goes as Goes·S, Clear as Clear·S, tries as tries·S, onward_to as onward_to·S, search as search·S, Told as Told·S, tries_told as tries_told·S, Says as Says·S, found, out, through}

module _ {W : Type 0} (K : W → Type 0) (M : W → ℕ → Type 0) where
  -- as specs/Search has it
  abbrev Goes : ℕ → List (List ℕ) → List ℕ → List (List ℕ) → List ℕ → Type 0
  Goes = Goes·S K M

  -- as specs/Search has it
  abbrev Clear : List ℕ → List (List ℕ) → ℕ → Type 0
  Clear = Clear·S K M

-- ── the search ──

module _ (ok : List ℕ → Bool) where
  -- as specs/Search has it
  abbrev tries : ℕ → List (List ℕ) → Outcome
  tries = tries·S ok

  -- as specs/Search has it
  abbrev onward_to : (ℕ → List ℕ × ℕ) → ℕ → List ℕ → Outcome → List ℕ × ℕ
  onward_to = onward_to·S ok

  -- as specs/Search has it
  abbrev search : ℕ → ℕ → ℕ → List ℕ → List ℕ → List ℕ × ℕ
  search = search·S ok

  -- ── proofs ──

  module _ {W : Type 0} (K : W → Type 0) (M : W → ℕ → Type 0) (R : ℕ → Type 0) (good : (l : List ℕ) → All R l → ok l ≡ true → Solvable K M l) (bad : (l : List ℕ) → All R l → ok l ≡ false → Unsolvable K M l) where
    -- as specs/Search has it
    abbrev Told : ℕ → List (List ℕ) → Outcome → Type 0
    Told = Told·S ok K M R good bad

    -- as specs/Search has it
    abbrev tries_told : (b : ℕ) (cs : List (List ℕ)) → All (All R) cs → Told b cs (tries b cs)
    tries_told = tries_told·S ok K M R good bad

    -- solvable ones are tested and passed
    goes_past : (pre rest ts : List (List ℕ)) (n b : ℕ) (f r : List ℕ) → n ≡ length pre + b → All (Solvable K M) pre → Goes K M b rest f ts r → Goes K M n (pre ++ rest) f (pre ++ ts) r
    goes_past [] rest ts n b f r e h g = let q : n ≡ b = omega arith in rw q g
    goes_past (c ∷ pre) rest ts zero b f r e h g = absurd (omega arith)
    goes_past (c ∷ pre) rest ts (suc n) b f r e h g = inr (h.0, pre ++ ts, refl, goes_past pre rest ts n b f r (omega arith) h.1 g)

    -- what the search says, of the sizes that remain, after those tested already
    module _ (all f : List ℕ) (ranged : All R all) (distinct : Distinct all) (fpicks : Picks f all) (fnone : Unsolvable K M f) where
      -- as specs/Search has it
      abbrev Says : ℕ → ℕ → ℕ → List (List ℕ) → List ℕ × ℕ → Type 0
      Says = Says·S ok K M R good bad all f ranged distinct fpicks fnone

      clear_more : (past ts : List (List ℕ)) (s : ℕ) → Clear K M all past s → Clear K M all (past ++ ts) s
      clear_more past ts s h c p z l = let g = h c p z l in (in_left past ts c g.0, g.1)

      -- a subset of s members that was not tested and found solvable: no greater size is clear
      not_clear : (ts : List (List ℕ)) (s : ℕ) (c : List ℕ) → Picks c all → 0 < length c → length c ≡ s → (In c ts → Solvable K M c → ⊥) → (d : ℕ) → Clear K M all ts d → d ≤ s
      not_clear ts s c p z e h d k = by (dec_lt s d)
        where
          by : Dec (s < d) → d ≤ s
          by (yes l) = let g = k c p z (omega arith) in absurd (h g.0 g.1)
          by (no l) = omega arith

      -- a distinct list holds a member once
      once : (pre post : List (List ℕ)) (c : List ℕ) → Distinct (pre ++ c ∷ post) → In c pre → ⊥
      once [] post c h k = k
      once (x ∷ pre) post c h (inl e) = all-at (λ y. x ≢ y) (pre ++ c ∷ post) c h.0 (in_right pre (c ∷ post) c (inl refl)) (sym e)
      once (x ∷ pre) post c h (inr k) = once pre post c h.1 k

      -- what the search says
      pub search_says : (n s b : ℕ) (past : List (List ℕ)) → 0 < s → s + n ≡ length f → All (λ c. length c < s) past → Clear K M all past s → Says s n b past (search s n b all f)
      unfolding search·S sized
      search_says zero s b past z e l k = ([], (refl, refl), clear_more past [] s k, not_clear (past ++ []) s f fpicks (omega arith) (omega arith) (λ i q. fnone q))
      search_says (suc n) s b past z e l k = by (tries b (subsets s all)) (tries_told b (subsets s all) (subsets_all R s all ranged)) (λ d us g h. search_says n (suc s) d us (omega arith) (omega arith) g h)
        where
          -- all smaller ones and those of this size
          clear_next : All (Solvable K M) (subsets s all) → Clear K M all (past ++ subsets s all) (suc s)
          clear_next g c p i j = at (dec_lt (length c) s)
            where
              at : Dec (length c < s) → In c (past ++ subsets s all) × Solvable K M c
              at (yes h) = let q = k c p i h in (in_left past (subsets s all) c q.0, q.1)
              at (no h) = let q = subset_there s all c p (omega arith) in (in_right past (subsets s all) c q, all-at (Solvable K M) (subsets s all) c g q)

          shorter : All (λ c. length c < suc s) (past ++ subsets s all)
          shorter = all_both (λ c. length c < suc s) past (subsets s all) (all_map (λ c. length c < s) (λ c. length c < suc s) past (λ c h. omega arith) l) (lengths (subsets s all) (λ c h. (subset_is s all c h).1))
            where
              lengths : (m : List (List ℕ)) → ((c : List ℕ) → In c m → length c ≡ s) → All (λ c. length c < suc s) m
              lengths [] h = tt
              lengths (c ∷ m) h = (let q = h c (inl refl) in omega arith, lengths m (λ d i. h d (inr i)))

          by : (o : Outcome) → Told b (subsets s all) o → ((d : ℕ) (us : List (List ℕ)) → All (λ c. length c < suc s) us → Clear K M all us (suc s) → Says (suc s) n d us (search (suc s) n d all f)) → Says s (suc n) b past (onward_to (λ c. search (suc s) n c all f) s f o)
          by (through d) t r =
              let q = r d (past ++ subsets s all) shorter (clear_next t.0) in
              let a = append_assoc past (subsets s all) q.0 in
              (subsets s all ++ q.0, goes_past (subsets s all) (sized (suc s) n all) q.0 b d f (search (suc s) n d all f).0 t.1 t.0 q.1, rw a at q.2, rw a at q.3)
          by (found c) t r =
              let m = subset_is s all c (rw t.2 (in_right t.0 (c ∷ t.1) c (inl refl))) in
              let ts = t.0 ++ c ∷ [] in
              (ts, passed t.0 t.1 c t.2 t.3 t.4 t.5, clear_more past ts s k, not_clear (past ++ ts) s c m.0 (omega (arith, m.1)) m.1 (λ i q. t.4 q))
            where
              passed : (pre post : List (List ℕ)) (c : List ℕ) → subsets s all ≡ pre ++ c ∷ post → All (Solvable K M) pre → Unsolvable K M c → length pre < b → Goes K M b (subsets s all ++ sized (suc s) n all) f (pre ++ c ∷ []) c
              passed pre post c q h u i =
                  let d = b - suc (length pre) in
                  rw (q, append_assoc pre (c ∷ post) (sized (suc s) n all)) (goes_past pre (c ∷ (post ++ sized (suc s) n all)) (c ∷ []) b (suc d) f c (omega arith) h (inl (u, refl, refl)))
          by out t r =
              let c = t.2 in
              let m = subset_is s all c (rw t.3 (in_right t.0 (c ∷ t.1) c (inl refl))) in
              let ts = t.0 in
              (ts, passed t.0 t.1 c t.3 t.4 t.5, clear_more past ts s k, not_clear (past ++ ts) s c m.0 (omega (arith, m.1)) m.1 (λ i q. untested t.0 t.1 c t.3 m.1 (in_either past ts c i)))
            where
              passed : (pre post : List (List ℕ)) (c : List ℕ) → subsets s all ≡ pre ++ c ∷ post → All (Solvable K M) pre → length pre ≡ b → Goes K M b (subsets s all ++ sized (suc s) n all) f pre f
              passed pre post c q h i =
                  let g = goes_past pre (c ∷ (post ++ sized (suc s) n all)) [] b 0 f f (omega arith) h (refl, refl) in
                  rw (q, append_assoc pre (c ∷ post) (sized (suc s) n all)) (rw (append-nil pre) at g)

              untested : (pre post : List (List ℕ)) (c : List ℕ) → subsets s all ≡ pre ++ c ∷ post → length c ≡ s → In c past ⊎ In c pre → ⊥
              untested pre post c q m (inl i) = let h = all-at (λ d. length d < s) past c l i in omega arith
              untested pre post c q m (inr i) = once pre post c (rw q at (subsets_distinct s all distinct)) i

-- ── two tests that agree ──

module _ (ok ok' : List ℕ → Bool) (R : ℕ → Type 0) (agree : (l : List ℕ) → All R l → ok l ≡ ok' l) where
  tries_agree : (b : ℕ) (cs : List (List ℕ)) → All (All R) cs → tries ok b cs ≡ tries ok' b cs
  unfolding tries·S
  tries_agree b [] h = refl
  tries_agree zero (c ∷ cs) h = refl
  tries_agree (suc b) (c ∷ cs) h = rw (agree c h.0, tries_agree b cs h.1) refl

  -- the search with either finds the same
  pub search_agree : (n s b : ℕ) (all f : List ℕ) → All R all → search ok s n b all f ≡ search ok' s n b all f
  unfolding search·S
  search_agree zero s b all f h = refl
  search_agree (suc n) s b all f h = rw (tries_agree b (subsets s all) (subsets_all R s all h)) (by (tries ok' b (subsets s all)) (λ d. search_agree n (suc s) d all f h))
    where
      by : (o : Outcome) → ((d : ℕ) → search ok (suc s) n d all f ≡ search ok' (suc s) n d all f) → onward_to ok (λ c. search ok (suc s) n c all f) s f o ≡ onward_to ok' (λ c. search ok' (suc s) n c all f) s f o
      by (found c) e = refl
      by out e = refl
      by (through d) e = e d
