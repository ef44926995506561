-- Two programs that run alike, from states in which each node has a place for its RAW. Assumes nothing.
use Rattle.std.specs.Prelude.{◌≡◌, refl, List, true, length, get_or}
use Rattle.std.proofs.Common.{sym, ap, ◌∙◌, arith}
use Rattle.std.proofs.Math.Option.{Option, none, some}
use Prim.Native.Nat.{ℕ, suc, zero, ◌+◌, ◌<◌, ◌≤◌}
use Rattle.theory.specs.Program.{run, ◌>>=◌, go_on, run_bind}
use Rattle.theory.specs.Basics.{All, all_map}
use Rattle.nodes.specs.Nodes.{is_some}
use Rattle.record.specs.Steps.{State, Walk, Step, for_each}
use Rattle.bounds.specs.Adds.{Cost, Kept, Adds, AddsBy}

-- from each state that I holds of, p and q run to one answer and state, and I holds of this state
pub record Same (I : State → Type 0) {A : Type 0} (p q : Walk A) : Type 0 where
  pub by : (s : State) → I s → run p s ≡ run q s
  pub holds : (s : State) → I s → I (run p s).1

module _ {I J : State → Type 0} {A B : Type 0} where
  -- one part, behind which J holds, and then another
  pub then_same : {p q : Walk A} {f g : A → Walk B} → Same I p q → ((s : State) → I s → (x : A) → (run p s).0 ≡ some x → J (run p s).1) → ((x : A) → Same J (f x) (g x)) → ((s : State) → J s → I s)
      → Same I (◌>>=◌ p f) (◌>>=◌ q g)
  then_same {p} {q} {f} {g} P behind Q less = record {
    by = λ s i. run_bind p f s ∙ runs s (run p s).0 refl i ∙ ap (λ (r : Option A × State). go_on r (λ x t. run (g x) t)) (P.by s i) ∙ sym (run_bind q g s);
    holds = λ s i. rw (run_bind p f s) (stays s (run p s).0 refl i);
  }
    where
      runs : (s : State) (o : Option A) → (run p s).0 ≡ o → I s → go_on (run p s) (λ x t. run (f x) t) ≡ go_on (run p s) (λ x t. run (g x) t)
      runs s none e i = rw e
      runs s (some x) e i = rw e ((Q x).by (run p s).1 (behind s i x e))

      stays : (s : State) (o : Option A) → (run p s).0 ≡ o → I s → I (go_on (run p s) (λ x t. run (f x) t)).1
      stays s none e i = rw e (P.holds s i)
      stays s (some x) e i = rw e (less _ ((Q x).holds (run p s).1 (behind s i x e)))

module _ {I : State → Type 0} where
  -- one part and then another
  pub bind_same : {A B : Type 0} {p q : Walk A} {f g : A → Walk B} → Same I p q → ((x : A) → Same I (f x) (g x)) → Same I (◌>>=◌ p f) (◌>>=◌ q g)
  bind_same P Q = then_same P (λ s i x e. P.holds s i) Q (λ s i. i)

  -- a loop
  pub each_same : (i k : ℕ) (f g : ℕ → Step) → ((j : ℕ) → j < i + k → Same I (f j) (g j)) → Same I (for_each i k f) (for_each i k g)
  unfolding for_each run
  each_same i zero f g h = record { by = λ s r. refl; holds = λ s r. r }
  each_same i (suc k) f g h = bind_same (h i (omega arith)) (λ x. each_same (suc i) k f g (λ j l. h j (omega arith)))

  -- what J holds of besides
  pub and_same : {J : State → Type 0} {A : Type 0} {p q : Walk A} → Same I p q → ((s : State) → J s → J (run p s).1) → Same (λ s. I s × J s) p q
  and_same P h = record { by = λ s i. P.by s i.0; holds = λ s i. (P.holds s i.0, h s i.1) }

-- ── places for RAW ──

-- the first m nodes have a place for their RAW, and each of ps has one
pub record Raws (m : ℕ) (ps : List ℕ) (s : State) : Type 0 where
  pub places : m ≤ length s.own.raw
  pub typed : All (λ p. is_some (get_or s.own.raw p none) ≡ true) ps

-- they keep them
pub raws_kept : {m : ℕ} {ps : List ℕ} {s t : State} → Kept s.own t.own → Raws m ps s → Raws m ps t
raws_kept {m} {ps} {s} {t} k r = record {
  places = omega (arith, k.places, r.places);
  typed = all_map (λ p. is_some (get_or s.own.raw p none) ≡ true) (λ p. is_some (get_or t.own.raw p none) ≡ true) ps k.typed r.typed;
}

-- p and q run alike, and keep the RAW of any nodes
pub record Alike (m : ℕ) {A : Type 0} (p q : Walk A) : Type 0 where
  pub same : (ps : List ℕ) → Same (Raws m ps) p q

module _ {m : ℕ} {A : Type 0} where
  -- a program of the rules, and itself
  pub leaf : {c : Cost} {p : Walk A} → Adds c p → Alike m p p
  leaf P = record { same = λ ps. record { by = λ s r. refl; holds = λ s r. raws_kept (P.larger s).kept r } }

  -- the same of one whose cost is by its answer
  pub leaf_by : {c : Option A → Cost} {p : Walk A} → AddsBy c p → Alike m p p
  leaf_by P = record { same = λ ps. record { by = λ s r. refl; holds = λ s r. raws_kept (P.larger s).kept r } }

  -- with the RAW of other nodes
  pub both_same : {p q : Walk A} → Alike m p q → (ps qs : List ℕ) → Same (λ s. Raws m ps s × Raws m qs s) p q
  both_same P ps qs = and_same (P.same ps) (λ s r. (P.same qs).holds s r)

-- one part and then another
pub bind_alike : {m : ℕ} {A B : Type 0} {p q : Walk A} {f g : A → Walk B} → Alike m p q → ((x : A) → Alike m (f x) (g x)) → Alike m (◌>>=◌ p f) (◌>>=◌ q g)
bind_alike P Q = record { same = λ ps. bind_same (P.same ps) (λ x. (Q x).same ps) }

-- a loop
pub each_alike : {m : ℕ} (i k : ℕ) (f g : ℕ → Step) → ((j : ℕ) → j < i + k → Alike m (f j) (g j)) → Alike m (for_each i k f) (for_each i k g)
each_alike i k f g h = record { same = λ ps. each_same i k f g (λ j l. (h j l).same ps) }
