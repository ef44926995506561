-- The subsets of a list by size and then by first differing number, as request n) goes through them; each stands there once; and the step from one to the next. Assumes
-- nothing but what each statement says.
use Rattle.std.specs.Prelude.{◌≡◌, refl, ◌≢◌, List, [], ◌∷◌, ◌++◌, map, ℕ, suc, zero, ◌+◌, ◌<◌, length}
use Rattle.std.proofs.Common.{sym, ◌∙◌, inl, inr, arith}
use Rattle.std.proofs.Math.Option.{Option, none}
use Rattle.std.proofs.Math.Decide.{dec_lt}
use Rattle.theory.specs.Basics.{All, ltb_yes, ltb_no}
use Rattle.conflict_theory.specs.Sets.{In, all_both, all_of}
use Rattle.conflict_theory.specs.Worked.{from}
use Rattle.conflict_theory.specs.Subsets.{Picks, subsets, next, lead, Chain, Distinct, map_in, subset_is, picks_all, raise, subsets_none, subsets_first}

-- ── which they are ──

-- what holds of all numbers holds of all of each subset
pub subsets_all : (P : ℕ → Type 0) (k : ℕ) (l : List ℕ) → All P l → All (All P) (subsets k l)
subsets_all P k l h = all_of (All P) (subsets k l) (λ c i. picks_all P c l (subset_is k l c i).0 h)

-- ── each once ──

picks_in : (c l : List ℕ) (x : ℕ) → Picks (x ∷ c) l → In x l
picks_in c [] x h = absurd h
picks_in c (y ∷ l) x (inl p) = inl p.0
picks_in c (y ∷ l) x (inr p) = inr (picks_in c l x p)

distinct_both : {A : Type 0} (a b : List A) → Distinct a → Distinct b → ((x : A) → In x a → In x b → ⊥) → Distinct (a ++ b)
distinct_both [] b h k f = k
distinct_both (x ∷ a) b h k f = (all_both (λ y. x ≢ y) a b h.0 (all_of (λ y. x ≢ y) b (λ y m e. f x (inl refl) (rw e m))), distinct_both a b h.1 k (λ y m. f y (inr m)))

distinct_map : (x : ℕ) (l : List (List ℕ)) → Distinct l → Distinct (map (λ c. x ∷ c) l)
distinct_map x [] h = tt
distinct_map x (c ∷ l) h = (apart l h.0, distinct_map x l h.1)
  where
    apart : (m : List (List ℕ)) → All (λ d. c ≢ d) m → All (λ d. x ∷ c ≢ d) (map (λ d. x ∷ d) m)
    apart [] k = tt
    apart (d ∷ m) k = (λ e. k.0 (cc), apart m k.1)

not_in : (x : ℕ) (l : List ℕ) → All (λ y. x ≢ y) l → In x l → ⊥
not_in x [] h k = k
not_in x (y ∷ l) h (inl e) = h.0 e
not_in x (y ∷ l) h (inr k) = not_in x l h.1 k

-- of distinct numbers no subset is there twice
pub subsets_distinct : (k : ℕ) (l : List ℕ) → Distinct l → Distinct (subsets k l)
unfolding subsets
subsets_distinct zero l h = (tt, tt)
subsets_distinct (suc k) [] h = tt
subsets_distinct (suc k) (x ∷ l) h = distinct_both (map (λ c. x ∷ c) (subsets k l)) (subsets (suc k) l) (distinct_map x (subsets k l) (subsets_distinct k l h.1)) (subsets_distinct (suc k) l h.1) (λ c m n. by c m n)
  where
    by : (c : List ℕ) → In c (map (λ d. x ∷ d) (subsets k l)) → In c (subsets (suc k) l) → ⊥
    by c m n = let r = map_in x c (subsets k l) m in let q = subset_is (suc k) l c n in not_in x l h.0 (picks_in r.0 l x (rw r.1 at q.0))

-- ── one after the other ──

lead_both : (a b : List (List ℕ)) (o : Option (List ℕ)) → lead (a ++ b) o ≡ lead a (lead b o)
lead_both [] b o = refl
lead_both (c ∷ a) b o = refl

chain_both : (n : ℕ) (a b : List (List ℕ)) (o : Option (List ℕ)) → Chain n a (lead b o) → Chain n b o → Chain n (a ++ b) o
chain_both n [] b o h k = k
chain_both n (c ∷ a) b o h k = (h.0 ∙ sym (lead_both a b o), chain_both n a b o h.1 k)

chain_map : (n x k : ℕ) (l : List (List ℕ)) → All (λ c. length c ≡ k) l → Chain n l none → Chain n (map (λ c. x ∷ c) l) (raise n x k)
unfolding next
chain_map n x k [] h e = tt
chain_map n x k (c ∷ []) h e = (rw (e.0, h.0) refl, tt)
chain_map n x k (c ∷ d ∷ l) h e = (rw e.0 refl, chain_map n x k (d ∷ l) h.1 e.1)

-- and `next` leads from each to the one behind it, and from the last to none
pub subsets_chain : (k a m n : ℕ) → n ≡ a + m → Chain n (subsets k (from a m)) none
unfolding subsets from next
subsets_chain zero a m n e = (refl, tt)
subsets_chain (suc k) a zero n e = tt
subsets_chain (suc k) a (suc m) n e =
    chain_both n (map (λ c. a ∷ c) (subsets k (from (suc a) m))) (subsets (suc k) (from (suc a) m)) none
    (rw (← follows (dec_lt m (suc k))) (chain_map n a k (subsets k (from (suc a) m)) (all_of (λ c. length c ≡ k) (subsets k (from (suc a) m)) (λ c h. (subset_is k (from (suc a) m) c h).1)) (subsets_chain k (suc a) m n (omega arith))))
    (subsets_chain (suc k) (suc a) m n (omega arith))
  where
    follows : Dec (m < suc k) → raise n a k ≡ lead (subsets (suc k) (from (suc a) m)) none
    follows (yes h) = rw (ltb_no (suc a + k) n (omega arith), subsets_none (suc k) (suc a) m h) refl
    follows (no h) = rw (ltb_yes (suc a + k) n (omega arith)) (sym (subsets_first (suc k) (suc a) m (omega arith)))
