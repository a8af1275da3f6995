-- The pieces before this one, and then what was written of it.
use Rattle.std.proofs.Common.{rules, ℕ, suc, ◌<◌, List, ◌++◌, length, take, drop, get_or, Option, sym, subst}
use Rattle.std.specs.List.{flat_map}
use Rattle.fg_io.specs.Sink.{Gains, GainsPart}
use Rattle.fg_io.proofs.SinkLemmas.{GainsPart-longer, GainsPart-trans}
use Rattle.fg_io.proofs.TextLemmas.{flat_map-at}
use Rattle.fg_io.proofs.sink.write_pieces.Goals as goal

-- part of one piece, after those before it
part_at : {X : Type 0} (f : X → List ℕ) (xs : List X) (i : ℕ) (d : X) (before now after : Option (List ℕ)) → i < length xs
    → Gains before (flat_map f (take i xs)) now → GainsPart now (f (get_or xs i d)) after → GainsPart before (flat_map f xs) after
part_at f xs i d before now after within gained part =
    subst (λ bytes. GainsPart before bytes after) (sym (flat_map-at f xs i d within))
    (GainsPart-trans before now after (flat_map f (take i xs)) (f (get_or xs i d) ++ flat_map f (drop (suc i) xs)) gained
    (GainsPart-longer now after (f (get_or xs i d)) (flat_map f (drop (suc i) xs)) part))

pub returns-in_err-write_all-clause-part : goal.returns-in_err-write_all-clause-part
returns-in_err-write_all-clause-part g c =
    let part : GainsPart (g.K.Sink.written c.args.sink.now) (flat_map (λ piece. piece.now) c.args.pieces.now) (g.K.Sink.written c.write_all.new.sink) =
    part_at (λ piece. piece.now) c.args.pieces.now c.loop-piece.piece-index _ _ _ _ c.loop-piece-test.true c.loop-piece.invariant.gained c.in_err-write_all.ensures.part in
    search rules
