-- What contracts see of a flow of a repair in batches.
use Rattle.std.specs.Prelude.{refl, ℕ, Bool, List}
use Rattle.std.specs.Coded.{Coded, code_by, coded×, coded_ℕ, coded_bool, coded_list}
use Rattle.fg_engine.specs.View.{FlowView, view_code}

-- The flow, the bytes that wait for its lane, and whether it found no memory for the records that it ran last.
pub record BatchView : Type 0 where
  pub flow : FlowView
  pub shelf : List ℕ
  pub starved : Bool

-- How these are told apart.
abbrev pub batch_code : Coded BatchView
batch_code =
    code_by (FlowView × (List ℕ × Bool)) (coded× view_code (coded× (coded_list coded_ℕ) coded_bool)) (λ batch. (batch.flow, (batch.shelf, batch.starved)))
    (λ p. record { flow = p.0; shelf = p.1.0; starved = p.1.1 })
    (λ _. refl)
