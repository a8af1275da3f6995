use Rattle.std.proofs.Common.{◌≡◌, ℕ, ◌+◌, ◌-◌, ◌≤◌, List, ◌++◌, length, take, sym, ap, ◌∙◌, arith, append_assoc, length-append}
use Rattle.std.proofs.lemmas.List.{length-take-le, take_at}
use borrow.Rule.Slice.PartMut.{put_mid, post_of}
use Rattle.fg_trace.specs.Trace.{Record, spelling}
use Rattle.fg_thin.proofs.thinned.outgoing.spell.Goals as goal

-- the front of a part that was written, behind what was before it
front_of : (into new piece rest : List ℕ) (end k count : ℕ) → end ≤ length into → new ≡ piece ++ rest → count ≡ length piece
    → take (end + count) (put_mid end k into new) ≡ take end into ++ piece
front_of into new piece rest end k count there split size =
    let front : List ℕ = take end into in
    let long : length (front ++ piece) ≡ end + count = omega (arith, length-append front piece, length-take-le end into there) in
    ap (λ t. take (end + count) (front ++ (t ++ post_of end k into))) split
    ∙ ap (λ t. take (end + count) (front ++ t)) (append_assoc piece rest (post_of end k into))
    ∙ ap (take (end + count)) (sym (append_assoc front piece (rest ++ post_of end k into)))
    ∙ take_at (front ++ piece) (rest ++ post_of end k into) (end + count) long

pub returns-clause-spelled : goal.returns-clause-spelled
returns-clause-spelled c = λ r is.
    let written : Record = record { time = c.item-time.result.0; port = c.item-time.result.1; datagram = c.item-time.result.2.now } in
    let same : written ≡ r = (let item = c.item-time.ensures.item in cc) in
    front_of c.args.into.now c.write_datagram.new.into (spelling written) _ c.args.end (length c.args.into.now - c.args.end) c.write_datagram.result
    (omega (arith, c.requires.room)) c.write_datagram.ensures.spelled (omega (arith, c.write_datagram.ensures.size))
    ∙ ap (λ (t : Record). take c.args.end c.args.into.now ++ spelling t) same
