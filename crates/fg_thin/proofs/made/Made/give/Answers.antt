use Rattle.std.proofs.Common.{◌≡◌, ℕ, ◌+◌, ◌-◌, ◌<◌, ◌≤◌, List, ◌++◌, drop, length, sym, ap, ◌∙◌, ⊎_elim, arith}
use Rattle.std.proofs.lemmas.Bool.{cases_lt}
use Rattle.rand_pcg.specs.Lcg.{Lcg, advance}
use Rattle.rand_pcg.specs.Pcg.{multiplier_64}
use Rattle.fg_thin.specs.Made.{made_packets}
use Rattle.fg_thin.specs.declared.made.Made.TheInside.{Inside}
use Rattle.fg_thin.proofs.MadeLemmas.{ended, held_given, next_is_held, packet_length}
use Rattle.fg_thin.proofs.made.Made.give.Goals.{then-self-eq-PACKET_LENGTH, else-self-eq-PACKET_LENGTH}
use Rattle.fg_thin.proofs.made.Made.give.Goals as goal

abbrev left_of : Inside → List ℕ
left_of a = drop a.given a.packet ++ made_packets a.generator a.made (a.packets - a.made)

pub returns-clause-bytes : goal.returns-clause-bytes
returns-clause-bytes c =
    let was = c.self.inside in
    let now = c.if-self-eq-PACKET_LENGTH.self-inside in
    let whole : length now.packet ≡ 188 =
    elim c.if-self-eq-PACKET_LENGTH.branch [
      | then-self-eq-PACKET_LENGTH w ↦
          ap (λ (a : Inside). length a.packet) w.self-inside-is
          ∙ ap (λ (packet : List ℕ). length packet) w.make_packet.ensures.packet
          ∙ packet_length was.generator was.made
      | else-self-eq-PACKET_LENGTH w ↦ ap (λ (a : Inside). length a.packet) w.self-inside-is ∙ c.self.told
    ] in
    let within : now.given ≤ 188 =
    elim c.if-self-eq-PACKET_LENGTH.branch [
      | then-self-eq-PACKET_LENGTH w ↦ let none = ap (λ (a : Inside). a.given) w.self-inside-is in omega arith
      | else-self-eq-PACKET_LENGTH w ↦ let same = ap (λ (a : Inside). a.given) w.self-inside-is in omega (arith, c.self.invariant.0)
    ] in
    let held : c.args.self.now ≡ left_of now =
    elim c.if-self-eq-PACKET_LENGTH.branch [
      | then-self-eq-PACKET_LENGTH w ↦
          let more : was.made < was.packets =
          ⊎_elim
          (λ (less : was.made < was.packets). less)
          (λ (past : was.packets ≤ was.made).
          let last : was.made ≡ was.packets = omega (arith, c.self.invariant.1) in
          absurd (c.requires.more (sym c.self.view_is ∙ ended was.packet was.generator was.given was.made was.packets c.self.told w.if-self-eq-PACKET_LENGTH.true last)))
          (cases_lt was.made was.packets) in
          sym c.self.view_is
          ∙ next_is_held was.packet was.generator was.given was.made was.packets c.self.told w.if-self-eq-PACKET_LENGTH.true more
          ∙ ap (λ (packet : List ℕ). drop 0 packet ++ made_packets (advance 64 multiplier_64 46 was.generator) (was.made + 1) (was.packets - (was.made + 1))) (sym w.make_packet.ensures.packet)
          ∙ ap (λ (generator : Lcg). drop 0 w.make_packet.new.packet ++ made_packets generator (was.made + 1) (was.packets - (was.made + 1))) (sym w.make_packet.ensures.generator)
          ∙ ap left_of (sym w.self-inside-is)
      | else-self-eq-PACKET_LENGTH w ↦ sym c.self.view_is ∙ ap left_of (sym w.self-inside-is)
    ] in
    let count = c.min-count.result in
    let least = c.min-count.ensures in
    held ∙ held_given now.packet (made_packets now.generator now.made (now.packets - now.made)) c.copy_from_slice.new.self c.args.into.now now.given count c.copy_from_slice.ensures.after (omega arith)
