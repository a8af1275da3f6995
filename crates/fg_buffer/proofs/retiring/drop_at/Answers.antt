use Rattle.std.proofs.Common.{◌≢◌, List, Bool, sym, subst, arith}
use Rattle.fg_peel.specs.declared.Line.{Line}
use Rattle.fg_buffer.specs.LiveInside.{Drops}
use Rattle.fg_buffer.proofs.LiveBounds.{nothing_drops}
use Rattle.fg_buffer.proofs.LiveWatched.{drops_at}
use Rattle.fg_buffer.proofs.retiring.drop_at.Goals as goal

pub release-requires : goal.release-requires
release-requires c =
    let found = c.in-Some.ensures.some in
    let within = (c.requires.within c.in-Some.key found.0 found.1).place in
    omega (arith, within, found.2, c.requires.places)

pub returns-in-Some : goal.returns-in-Some
returns-in-Some c =
    let found = c.in-Some.ensures.some in
    let within = (c.requires.within c.in-Some.key found.0 found.1).place in
    let out = c.remove.ensures in
    subst (λ (ps : List Bool). Drops (λ (line : Line). line.place ≢ c.args.place) c.args.lines.now c.remove.new.self c.args.places.now ps)
    (sym c.release.ensures)
    (drops_at c.args.keys.now c.args.lines.now c.remove.new.self c.args.places.now c.args.place c.in-Some.key found.0
    c.requires.keyed found.1 found.2 (omega (arith, within, found.2, c.requires.places)) out.updates out.len out.capacity)

pub returns-in_default : goal.returns-in_default
returns-in_default c =
    nothing_drops (λ (line : Line). line.place ≢ c.args.place) c.args.lines.now c.args.places.now c.in_default.ensures.none
