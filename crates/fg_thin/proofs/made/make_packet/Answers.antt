use Rattle.std.proofs.Common.{ℕ, ◌+◌, ◌%◌, List, ◌∷◌, ap, ◌∙◌}
use Rattle.fg_thin.proofs.MadeLemmas.{filled_after, filled_words, head_room, put_packet}
use Rattle.fg_thin.proofs.made.make_packet.Goals as goal

pub returns-clause-packet : goal.returns-clause-packet
returns-clause-packet c =
    let byte = 16 + c.args.number % 16 in
    put_packet c.args.packet.now c.fill_bytes_via_u32.new.dst byte c.told-packet
    ∙ ap (λ (words : List ℕ). 71 ∷ 1 ∷ 0 ∷ byte ∷ words)
    (filled_words c.fill_bytes_via_u32.new.dst c.args.generator.now c.fill_bytes_via_u32.new.rng _ (head_room c.args.packet.now byte c.told-packet) c.fill_bytes_via_u32.ensures)

pub returns-clause-generator : goal.returns-clause-generator
returns-clause-generator c =
    filled_after c.fill_bytes_via_u32.new.dst c.args.generator.now c.fill_bytes_via_u32.new.rng _ (head_room c.args.packet.now (16 + c.args.number % 16) c.told-packet) c.fill_bytes_via_u32.ensures
