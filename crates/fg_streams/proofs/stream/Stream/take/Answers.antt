use Rattle.std.proofs.Common.{◌||◌, ◌/◌, Bool, false, List, ◌∷◌, length, drop, get_or, refl, sym, ap, ◌∙◌, subst, arith}
use Rattle.std.proofs.lemmas.List.{take_at}
use Rattle.fg_streams.specs.declared.fates.Fate.{Fate}
use Rattle.fg_streams.specs.Arrival.{Arrival}
use Rattle.fg_streams.specs.Fates.{counts_of, fates_of}
use Rattle.fg_streams.specs.Packets.{carries, has_pid}
use Rattle.fg_streams.specs.Steps.{AreMarks, IsStreamOf, StreamState}
use Rattle.fg_streams.proofs.Marking.{limit}
use Rattle.fg_streams.proofs.Summing.{counts_have_room, low_more, marked}
use Rattle.fg_streams.proofs.stream.Stream.take.Goals as goal

pub add-requires : goal.add-requires
add-requires c =
    let k = subst (λ (s : StreamState). IsStreamOf s c.requires.0) (sym c.self.view_is) c.requires.1 in
    counts_have_room c.self.inside.counts c.requires.0 k.counts c.requires.2

pub mark-requires : goal.mark-requires
mark-requires c = ap (λ (t : List Bool). length t) c.deref_mut.ensures.value ∙ c.self.invariant.all

pub returns : goal.returns
returns c = λ before h.
    let k = subst (λ (s : StreamState). IsStreamOf s before) (sym c.self.view_is) h in
    let a : Arrival = record { time = c.args.time; seq = c.args.seq; ts = c.args.ts; payload = c.args.payload.now } in
    let r = c.in_ok-fate.ensures.received before a.ts a.payload k.span k.times in
    let marks = c.self.inside.marks.items in
    let now = c.mark.new.marks in
    let same = take_at now (drop (length now) marks) c.self.inside.marks.len (omega (arith, c.mark.ensures.all, c.self.invariant.all, c.self.inside.marks.ok.0)) in
    record {
      span = r.span_is;
      low = low_more c.self.inside.span c.receive.new.span (length before) c.in_ok-fate.ensures.first c.in_ok-fate.ensures.near k.low;
      counts = c.add.ensures (fates_of before) k.counts ∙ ap (λ (f : Fate). counts_of (f ∷ fates_of before)) r.fate_is;
      times = r.keeps;
      pace = c.take.ensures.pace before a k.pace refl refl;
      room = c.take.ensures.room;
      marks = subst (λ (m : List Bool). AreMarks m (has_pid (a ∷ before))) (sym same) (marked a before marks c.mark.new.marks (c.mark.ensures.all ∙ sym c.self.invariant.all)
          (λ p below. c.mark.ensures.each p below ∙ ap (λ (t : List Bool). carries a.payload p (length a.payload / 188) || get_or t p false) c.deref_mut.ensures.value) limit k.marks);
    }
