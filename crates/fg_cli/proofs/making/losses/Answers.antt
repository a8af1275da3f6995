use Rattle.std.proofs.Common.{◌≡◌, ◌≤◌, ℕ, List, length, ◌⊎◌, ⊎_elim, inl, inr, subst, sym, arith, ap}
use Rattle.std.specs.List.{All}
use Rattle.fg_cli.proofs.Ranges.{drops_in, every_in}
use Rattle.fg_cli.proofs.making.losses.Goals as goal

pub returns-clause-fits : goal.returns-clause-fits
returns-clause-fits c =
    let P : List ℕ → Type 0 = λ l. All (λ n. 1 ≤ n) l in
    let Q : ℕ → Type 0 = λ n. (n ≡ 0) ⊎ (2 ≤ n) in
    let every = c.number-every.result in
    let named = c.in_ok-drops.ensures in
    let count = ap (λ (l : List ℕ). length l) named in
    record {
      may = record {
        numbers = subst P (sym named) (drops_in c.args.settings.now c.requires.ranges);
        few = ⊎_elim (λ (none : every ≡ 0). inl (none, omega (arith, c.requires.drops, count))) (λ (some : 2 ≤ every). inr (some, omega (arith, c.requires.drops, count)))
            (subst Q (sym c.number-every.ensures.value) (every_in c.args.settings.now c.requires.ranges));
      };
      named = omega (arith, c.requires.drops, count);
    }
