use Rattle.std.proofs.Common.{◌≡◌, ◌∙◌, ◌++◌, ◌∷◌, ◌+◌, ◌≤◌, ℕ, List, [], Option, length, drop, refl, ap, arith}
use Rattle.fg_io.proofs.FaultLemmas.{on_err}
use Rattle.fg_io.specs.InputBuffer.{InputState}
use Rattle.fg_monitor.specs.Steps.{Breaks, IsUnderway}
use Rattle.fg_monitor.proofs.Endings.{synced_here, whole_here, within_here}
use Rattle.fg_monitor.proofs.Telling.{part_at_line, part_told, tells_more}
use Rattle.fg_monitor.proofs.Walking.{breaks_at, ended_here, few_fed, filled, stepped, stepped_buffer, still_buffer}
use Rattle.fg_monitor.proofs.walk.MonitoringWalking.step.Goals as goal

pub fill-requires-clause-want : goal.fill-requires-clause-want
fill-requires-clause-want g c = let longest = c.requires.2.buffer.longest in omega arith

pub returns-in_err-ahead-clause-part : goal.returns-in_err-ahead-clause-part
returns-in_err-ahead-clause-part g c =
    let input = c.fill.new.self in
    let now = g.S.Source.left c.fill.new.from in
    let written = g.K.Sink.written c.args.out.now in
    let P : Type 0 = (first : Option (List ℕ)) (before : Option (List ℕ)) → IsUnderway c.args.self.now c.args.reader.now first (g.S.Source.left c.args.input.now) before written → Breaks c.args.reader.now.max first now before written in
    let part : P = λ first before h.
    let stands = filled c.args.reader.now input first _ now h.packets c.fill.ensures.same c.fill.ensures.takes (λ over. let k = c.fill.ensures.stays over in (k.0, ap g.S.Source.left k.1)) c.fill.ensures.at_end h.stands in
    breaks_at c.read_as_far_as_needed.ensures input c.args.reader.now.max first now before written h.packets h.packets (ap (λ (t : InputState). t.max) c.fill.ensures.same)
    (still_buffer c.args.reader.now input c.fill.ensures.same h.buffer) c.fill.ensures.bounded c.fill.ensures.few stands stands.cut (part_told h.packets c.args.self.now.lines before written h.told) in
    on_err _ P part

pub returns-in-Some-clause-ends : goal.returns-in-Some-clause-ends
returns-in-Some-clause-ends g c = λ first before h.
    let input = c.fill.new.self in
    let now = g.S.Source.left c.fill.new.from in
    let written = g.K.Sink.written c.args.out.now in
    let stands = filled c.args.reader.now input first _ now h.packets c.fill.ensures.same c.fill.ensures.takes (λ over. let k = c.fill.ensures.stays over in (k.0, ap g.S.Source.left k.1)) c.fill.ensures.at_end h.stands in
    ended_here c.read_as_far_as_needed.ensures c.in_ok-ahead.ahead c.args.self.now input first now before written c.in-Some.ending h.packets c.in_ok-ahead.ensures.tells
    (still_buffer c.args.reader.now input c.fill.ensures.same h.buffer) c.fill.ensures.bounded c.fill.ensures.few c.in-Some.ensures stands h.seen h.told

pub next_packet-requires : goal.next_packet-requires
next_packet-requires g c = whole_here c.fill.new.self c.in_default.ensures

pub feed-told-requires : goal.feed-told-requires
feed-told-requires g c =
    let input = c.fill.new.self in
    let now = g.S.Source.left c.fill.new.from in
    let first = c.requires.0 in
    let h = c.requires.2 in
    let stands = filled c.args.reader.now input first _ now h.packets c.fill.ensures.same c.fill.ensures.takes (λ over. let k = c.fill.ensures.stays over in (k.0, ap g.S.Source.left k.1)) c.fill.ensures.at_end h.stands in
    let whole = whole_here input c.in_default.ensures in
    let some : 1 ≤ length input.held = omega arith in
    record {
      sync = synced_here input c.next_packet.result.now c.in_default.ensures c.next_packet.ensures;
      few = few_fed input c.args.self.now.monitor first now h.packets (still_buffer c.args.reader.now input c.fill.ensures.same h.buffer) some stands h.seen;
    }

pub returns-in_err-add-clause-part : goal.returns-in_err-add-clause-part
returns-in_err-add-clause-part g c =
    let input = c.fill.new.self in
    let now = g.S.Source.left c.fill.new.from in
    let written = g.K.Sink.written c.args.out.now in
    let after = g.K.Sink.written c.add.new.out in
    let packet = c.next_packet.result.now in
    let whole = whole_here input c.in_default.ensures in
    let next : InputState = record input { place = input.place + 188; held = drop 188 input.held } in
    let P : Type 0 = (first : Option (List ℕ)) (before : Option (List ℕ)) → IsUnderway c.args.self.now c.args.reader.now first (g.S.Source.left c.args.input.now) before written → Breaks c.args.reader.now.max first now before after in
    let part : P = λ first before h.
    let stands = filled c.args.reader.now input first _ now h.packets c.fill.ensures.same c.fill.ensures.takes (λ over. let k = c.fill.ensures.stays over in (k.0, ap g.S.Source.left k.1)) c.fill.ensures.at_end h.stands in
    let more = stepped c.in_ok-ahead.ahead input next first now h.packets packet c.in_ok-ahead.ensures.tells c.in_default.ensures whole c.next_packet.ensures refl stands in
    breaks_at c.read_as_far_as_needed.ensures input c.args.reader.now.max first now before after h.packets (h.packets ++ packet ∷ []) (ap (λ (t : InputState). t.max) c.fill.ensures.same)
    (still_buffer c.args.reader.now input c.fill.ensures.same h.buffer) c.fill.ensures.bounded c.fill.ensures.few stands more.cut
    (part_at_line h.packets packet c.feed-told.result c.args.self.now.lines before written after h.told (c.feed-told.ensures.tells h.packets h.seen) c.in_err-add.ensures.part) in
    on_err _ P part

pub step-requires : goal.step-requires
step-requires g c = record { held = whole_here c.fill.new.self c.in_default.ensures; within = within_here c.fill.new.self c.in_default.ensures }

pub returns-clause-fewer : goal.returns-clause-fewer
returns-clause-fewer g c =
    let within = within_here c.fill.new.self c.in_default.ensures in
    let same = c.fill.ensures.same in
    let place : c.step.new.self.place ≡ c.args.reader.now.place + 188 = ap (λ (t : InputState). t.place) c.step.ensures ∙ ap (λ (t : InputState). t.place + 188) same in
    let max : c.step.new.self.max ≡ c.args.reader.now.max = ap (λ (t : InputState). t.max) c.step.ensures ∙ ap (λ (t : InputState). t.max) same in
    omega (arith, place, max, within, ap (λ (t : InputState). t.place) same, ap (λ (t : InputState). t.max) same)

pub returns-clause-more : goal.returns-clause-more
returns-clause-more g c = λ first before h.
    let input = c.fill.new.self in
    let now = g.S.Source.left c.fill.new.from in
    let written = g.K.Sink.written c.args.out.now in
    let after = g.K.Sink.written c.add.new.out in
    let packet = c.next_packet.result.now in
    let whole = whole_here input c.in_default.ensures in
    let stands = filled c.args.reader.now input first _ now h.packets c.fill.ensures.same c.fill.ensures.takes (λ over. let k = c.fill.ensures.stays over in (k.0, ap g.S.Source.left k.1)) c.fill.ensures.at_end h.stands in
    record {
      packets = h.packets ++ packet ∷ [];
      stands = stepped c.in_ok-ahead.ahead input c.step.new.self first now h.packets packet c.in_ok-ahead.ensures.tells c.in_default.ensures whole c.next_packet.ensures c.step.ensures stands;
      buffer = stepped_buffer input c.step.new.self c.step.ensures (within_here input c.in_default.ensures) (still_buffer c.args.reader.now input c.fill.ensures.same h.buffer);
      seen = c.feed-told.ensures.seen h.packets h.seen;
      told = tells_more h.packets packet c.feed-told.result c.args.self.now.lines c.add.new.self before written after h.told
          (c.feed-told.ensures.tells h.packets h.seen) c.in_ok-add.ensures.sent c.in_ok-add.ensures.faults;
    }
