use Rattle.std.proofs.Common.{ℕ, ◌≤◌, List, All, length, refl, sym, subst, inl, arith}
use Rattle.fg_thin.specs.Drawn.{drawn_drops}
use Rattle.fg_thin.proofs.DrawnLemmas.{drops_few, drops_number}
use Rattle.fg_thin.proofs.drawing.drawn.Goals as goal

pub returns-clause-few : goal.returns-clause-few
returns-clause-few c =
    let records = c.count_records-records in
    let drawn = c.in_ok-drops.ensures in
    let few = drops_few c.args.seed c.args.loss records.result in
    let most : length (drawn_drops c.args.seed c.args.loss records.result) ≤ 24000 = omega (arith, records.ensures.few) in
    record {
      numbers = subst (λ (drops : List ℕ). All (λ number. 1 ≤ number) drops) (sym drawn) (drops_number c.args.seed c.args.loss records.result);
      few = inl (refl, subst (λ (drops : List ℕ). length drops ≤ 24000) (sym drawn) most);
    }
