use Rattle.std.proofs.Common.{rules, ℕ, ◌/◌, eqb, get_or, refl, ap}
use Rattle.std.proofs.lemmas.Nat.{and_mask}
use Rattle.fg_words.proofs.WordLemmas.{word-ext}
use Rattle.fg_fechead.proofs.DatagramLemmas.{parity-ext}
use Rattle.fg_fechead.proofs.fields.Goals as goal

pub returns : goal.returns
returns c = λ payload.
    parity-ext _ _ (search rules) c.shape_of.ensures.offset c.shape_of.ensures.na
    (ap (λ (n : ℕ). eqb n 1) (and_mask (get_or c.args.header.now 12 0 / 64) 1))
    (word-ext _ _ (and_mask (get_or c.args.header.now 4 0) 7) (search rules) (search rules) refl)
