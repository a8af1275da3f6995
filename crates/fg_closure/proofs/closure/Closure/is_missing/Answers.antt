use Rattle.std.proofs.Common.{◌+◌, ◌-◌, ◌<◌, length, get_or, false, true, refl, ap, ◌∙◌, ⊎_elim, arith}
use Rattle.std.proofs.lemmas.Bool.{cases_eq}
use Rattle.fg_closure.proofs.Findings.{missing_here, none_missing, read_flag}
use Rattle.fg_closure.proofs.closure.Closure.is_missing.Goals as goal

pub returns-then-not-index : goal.returns-then-not-index
returns-then-not-index c desk is =
    let closure = c.args.self.now in
    let within : closure.mark - closure.first + c.loop-k.k < length closure.closed.items = omega (arith, closure.closed.ok.0, closure.closed_count, closure.near) in (
      λ yes. missing_here desk closure c.args.count (closure.mark - closure.first) c.loop-k.k is refl c.loop-k-test.true
          (read_flag closure.closed.items (closure.mark - closure.first + c.loop-k.k) c.index.result.now false within c.index.ensures c.if-not-index.true),
      λ missing. refl,
    )

pub loop-k-preserved : goal.loop-k-preserved
loop-k-preserved c k below =
    let closure = c.args.self.now in
    let within : closure.mark - closure.first + c.loop-k.k < length closure.closed.items = omega (arith, closure.closed.ok.0, closure.closed_count, closure.near) in
    ⊎_elim
    (λ same. ap (λ n. get_or closure.closed.items (closure.mark - closure.first + n) false) same
    ∙ read_flag closure.closed.items (closure.mark - closure.first + c.loop-k.k) c.index.result.now true within c.index.ensures c.if-not-index.false)
    (λ other. c.loop-k.invariant k (omega (arith, below, other)))
    (cases_eq k c.loop-k.k)

pub returns : goal.returns
returns c desk is = (
  λ no_more. absurd (cc),
  λ missing. absurd (none_missing desk c.args.self.now c.args.count (c.args.self.now.mark - c.args.self.now.first) is refl
      (λ k below. c.loop-k.invariant k (omega (arith, below, c.loop-k-test.false))) missing),
)
