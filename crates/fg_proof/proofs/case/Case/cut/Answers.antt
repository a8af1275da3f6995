use Rattle.std.proofs.Common.{◌≤◌, length, refl, subst, arith}
use Rattle.fg_proof.proofs.Cutting.{IsEnd, end_begins, end_on, holes_cut}
use Rattle.fg_proof.proofs.case.Case.cut.Goals as goal

pub loop-i-init : goal.loop-i-init
loop-i-init c =
    end_begins c.args.self.now.mark c.args.count _ c.from.result c.from-2.result c.args.self.now.lines c.from.ensures c.from-2.ensures refl

pub loop-i-preserved : goal.loop-i-preserved
loop-i-preserved c =
    end_on c.args.self.now.mark c.args.count c.loop-i.i c.loop-i.end c.max-end.result c.end_of.result c.args.self.now.lines c.item-base.result
    c.item-base.ensures c.end_of.ensures c.max-end.ensures c.loop-i.invariant

pub returns : goal.returns
returns c port old desk is fewer =
    let all : length c.args.self.now.lines ≤ c.loop-i.i = omega (arith, c.count-i-end.ensures) in record {
      port_is = is.port_is;
      mark_is = is.mark_is;
      count_is = refl;
      known_are = is.known_are;
      lines_are = is.lines_are;
      holes_are = holes_cut desk old c.args.count c.loop-i.i c.loop-i.end c.args.self.now.lines c.args.self.now.holes c.cut.new.self is.lines_are fewer all
          (subst (λ mark. IsEnd mark c.args.count c.args.self.now.lines c.loop-i.i c.loop-i.end) is.mark_is c.loop-i.invariant) is.holes_are
          c.cut.ensures.apart c.cut.ensures.below;
    }
