-- A star of items is sorted: what is had in two rows is had in two others, or in three. Assumes nothing.
--     sorts        ⋆ Δ ∗ ⋆ Γ  ⊢  ⋆ Δ' ∗ ⋆ Γ'        where the entries of Δ ++ Γ at the positions π are Δ' ++ Γ', which `refl` shows. What π leaves out is let go
--     sorts3       ⋆ Δ ∗ ⋆ Γ  ⊢  ⋆ Δ' ∗ (⋆ Γ' ∗ ⋆ Θ')        likewise
--     alone        P  ⊢  P ∗ emp
use Rattle.std.specs.Prelude.{◌≡◌, ℕ, List, ◌++◌}
use Rattle.std.proofs.Common.{subst}
use seplogic.Ra.Ura.{Ura}
use base.Logic.{SProp, ent, sep, emp, via, comm∗, emp∗, mono_r}
use types.Logic.{Logic}
use types.Kit.{Item, ⋆, only, only⊢, ++⊢, ⊢++}

module _ {M : Type 1} {𝓤 : Ura M} (𝓛 : Logic 𝓤) where
  -- two rows, sorted into two
  pub sorts : (Δ Γ Δ' Γ' : List (Item 𝓤)) (π : List ℕ) → only 𝓛 π (Δ ++ Γ) ≡ Δ' ++ Γ' → ent 𝓤 (sep 𝓤 (⋆ 𝓛 Δ) (⋆ 𝓛 Γ)) (sep 𝓤 (⋆ 𝓛 Δ') (⋆ 𝓛 Γ'))
  sorts Δ Γ Δ' Γ' π e =
      via 𝓤 (⋆ 𝓛 (Δ ++ Γ)) (++⊢ 𝓛 Δ Γ)
      (via 𝓤 (⋆ 𝓛 (Δ' ++ Γ')) (subst (λ (L : List (Item 𝓤)). ent 𝓤 (⋆ 𝓛 (Δ ++ Γ)) (⋆ 𝓛 L)) e (only⊢ 𝓛 π (Δ ++ Γ))) (⊢++ 𝓛 Δ' Γ'))

  -- two rows, sorted into three
  pub sorts3 : (Δ Γ Δ' Γ' Θ' : List (Item 𝓤)) (π : List ℕ) → only 𝓛 π (Δ ++ Γ) ≡ Δ' ++ (Γ' ++ Θ') → ent 𝓤 (sep 𝓤 (⋆ 𝓛 Δ) (⋆ 𝓛 Γ)) (sep 𝓤 (⋆ 𝓛 Δ') (sep 𝓤 (⋆ 𝓛 Γ') (⋆ 𝓛 Θ')))
  sorts3 Δ Γ Δ' Γ' Θ' π e = via 𝓤 (sep 𝓤 (⋆ 𝓛 Δ') (⋆ 𝓛 (Γ' ++ Θ'))) (sorts Δ Γ Δ' (Γ' ++ Θ') π e) (mono_r 𝓤 (⋆ 𝓛 Δ') (⊢++ 𝓛 Γ' Θ'))

  -- nothing beside it
  pub alone : (P : SProp 𝓤) → ent 𝓤 P (sep 𝓤 P (emp 𝓤))
  alone P = via 𝓤 (sep 𝓤 (emp 𝓤) P) (emp∗ 𝓤 P) (comm∗ 𝓤 (emp 𝓤) P)
