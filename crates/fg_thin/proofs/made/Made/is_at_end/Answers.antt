use Rattle.std.proofs.Common.{◌∙◌, sym, eq-eqb, eqb-true}
use Rattle.fg_thin.proofs.MadeLemmas.{ended, only_ended}
use Rattle.fg_thin.proofs.made.Made.is_at_end.Goals as goal

pub returns-then-self-eq-PACKET_LENGTH : goal.returns-then-self-eq-PACKET_LENGTH
returns-then-self-eq-PACKET_LENGTH c =
    let inside = c.self.inside in
    let was = c.self.invariant in (
      λ last. sym c.self.view_is ∙ ended inside.packet inside.generator inside.given inside.made inside.packets was.2 c.if-self-eq-PACKET_LENGTH.true (eqb-true inside.made inside.packets last),
      λ none. eq-eqb inside.made inside.packets (only_ended inside.packet inside.generator inside.given inside.made inside.packets was.2 was.0 was.1 (c.self.view_is ∙ none)).1,
    )

pub returns-else-self-eq-PACKET_LENGTH : goal.returns-else-self-eq-PACKET_LENGTH
returns-else-self-eq-PACKET_LENGTH c =
    let inside = c.self.inside in
    let was = c.self.invariant in (
      λ all. absurd (c.if-self-eq-PACKET_LENGTH.false (eqb-true inside.given 188 all)),
      λ none. absurd (c.if-self-eq-PACKET_LENGTH.false (only_ended inside.packet inside.generator inside.given inside.made inside.packets was.2 was.0 was.1 (c.self.view_is ∙ none)).0),
    )
