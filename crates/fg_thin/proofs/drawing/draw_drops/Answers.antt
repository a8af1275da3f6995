use Rattle.std.proofs.Common.{sym, ◌∙◌, arith}
use Rattle.fg_thin.specs.Made.{generator_of}
use Rattle.fg_thin.proofs.DrawnLemmas.{drops_kept, drops_taken, generator_next, word_drawn}
use Rattle.fg_thin.proofs.MadeLemmas.{advance_none}
use Rattle.fg_thin.proofs.drawing.draw_drops.Goals.{then-next_word-loss+in_ok-add, else-next_word-loss}
use Rattle.fg_thin.proofs.drawing.draw_drops.Goals as goal

pub loop-number-init : goal.loop-number-init
loop-number-init c = record {
  least = omega arith;
  generator = c.new-generator.ensures ∙ sym (advance_none (generator_of c.args.seed 55));
  drops = c.new-drops.ensures;
}

pub loop-number-preserved : goal.loop-number-preserved
loop-number-preserved c =
    let number = c.loop-number.number in
    let was = c.loop-number.invariant in
    let least = was.least in
    let word = word_drawn c.args.seed number c.next_word.result _ _ was.generator c.next_word.ensures in
    record {
      least = omega arith;
      generator = generator_next c.args.seed number c.next_word.result _ _ least was.generator c.next_word.ensures;
      drops = elim c.if-next_word-loss.branch [
        | then-next_word-loss+in_ok-add w ↦ w.drops-is ∙ w.in_ok-add.ensures.ok ∙ drops_taken c.args.seed c.args.loss number c.next_word.result _ least word w.if-next_word-loss.true was.drops
        | else-next_word-loss w ↦ w.drops-is ∙ drops_kept c.args.seed c.args.loss number c.next_word.result _ least word w.if-next_word-loss.false was.drops
      ];
    }
