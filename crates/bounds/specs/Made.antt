-- The types and variables behind a well-formed body: the fixed types, one for each type line, then the made ones, each of one of six forms, whose inputs are at most one
-- for each node. Assumes nothing.
use Rattle.std.specs.Prelude.{◌≡◌, refl, List, [], ◌∷◌, ◌++◌, ℕ, suc, zero, ◌+◌, ◌*◌, ◌≤◌, length, drop}
use Rattle.std.proofs.Common.{sym, ◌∙◌, append_assoc, arith}
use Rattle.std.proofs.Math.Path.{ap}
use Rattle.std.proofs.Math.ListN.{length-drop}
use Rattle.theory.specs.Rules.{Shape}
use Rattle.theory.specs.Program.{run}
use Rattle.theory.specs.Demand.{Tables}
use Rattle.theory.specs.Start.{start}
use Rattle.theory.proofs.Claims.{final_tables}
use Rattle.type_table.specs.Memory.{tab}
use Rattle.type_table.specs.Tables.{tab_snoc}
use Rattle.type_table.specs.Sound.{fixed_types}
use Rattle.refs.specs.declared.Counts.{Counts}
use Rattle.record.specs.Own.{Own}
use Rattle.record.specs.Steps.{State}
use Rattle.resolve.specs.Resolve.{type_body}
use Rattle.well_formed.specs.Good.{WellFormed}
use Rattle.bounds.specs.Adds.{Larger}
use Rattle.bounds.specs.Body.{nodes_cost, behind_types_adds}
use Rattle.bounds.specs.Declared.{line_shape, declared, declared_length, body_behind}

-- the declared types are the fixed ones and those of the lines
pub declared_tab : (rows cells : List ℕ) (k : ℕ) → declared rows cells k ≡ fixed_types ++ tab (line_shape rows cells) k
unfolding declared
declared_tab rows cells zero = refl
declared_tab rows cells (suc k) =
    ap (λ (l : List Shape). l ++ line_shape rows cells k ∷ []) (declared_tab rows cells k)
    ∙ append_assoc fixed_types (tab (line_shape rows cells) k) (line_shape rows cells k ∷ [])
    ∙ ap (λ (l : List Shape). fixed_types ++ l) (sym (tab_snoc (line_shape rows cells) k))

module _ (n : Counts) (rows cells : List ℕ) (own : Own) where
  -- the state behind the body
  abbrev pub last : State
  last = (run (type_body n rows cells) (start fixed_types own)).1

  -- ── variables ──

  -- the tables of variables
  last_tables : Tables last.rows last.kinds last.origins last.mem last.log
  last_tables = final_tables fixed_types own (type_body n rows cells) refl

  -- there is a binding for each variable,
  pub binds_count : length last.mem.binds ≡ length last.kinds
  binds_count = sym last_tables.claim.kinds_sized

  -- a negation mark,
  pub marks_count : length last.mem.marks ≡ length last.kinds
  marks_count = last_tables.marks_sized ∙ binds_count

  -- and an origin
  pub origins_count : length last.origins ≡ length last.kinds
  origins_count = last_tables.origins_sized ∙ binds_count

  -- ── types ──

  -- the made types
  abbrev pub made : List Shape
  made = drop (14 + n.types) last.rows

  module _ (w : WellFormed n rows cells) where
    -- what is added behind the type lines
    pub behind_larger : Larger (nodes_cost n) (start (declared rows cells n.types) own) last
    behind_larger = rw (last, body_behind n rows cells w own) ((behind_types_adds n rows cells w).larger (start (declared rows cells n.types) own))

    -- at most three types are made for each node
    pub made_count : length made ≤ 3 * n.nodes
    unfolding start
    made_count = omega (arith, behind_larger.rows, length-drop (14 + n.types) last.rows, declared_length rows cells n.types)
