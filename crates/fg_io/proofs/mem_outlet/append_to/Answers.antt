-- The port's keeper is the one at its place, and no other keeper changes.
use Rattle.std.proofs.Common.{◌∙◌, sym, ap, arith}
use Rattle.fg_io.proofs.OutletLemmas.{LaneGainsPart-nil}
use Rattle.fg_io.proofs.KeeperLemmas.{keeper_of-found, keeper_of-none, LaneGains-appended, LaneGainsPart-appended, map-written, none_or_some, some_or_none}
use Rattle.fg_io.proofs.mem_outlet.append_to.Goals as goal

pub returns-in_default-clause-whole : goal.returns-in_default-clause-whole
returns-in_default-clause-whole c =
    let none = keeper_of-none c.args.keepers.now c.args.port (sym c.place_of.ensures ∙ c.in_default.is) in
    rw none (grind arith)

pub returns-in_default-clause-listed : goal.returns-in_default-clause-listed
returns-in_default-clause-listed c =
    λ some. absurd (none_or_some _ (keeper_of-none c.args.keepers.now c.args.port (sym c.place_of.ensures ∙ c.in_default.is)) some)

pub returns-in_default-clause-part : goal.returns-in_default-clause-part
returns-in_default-clause-part c = LaneGainsPart-nil _ _ _

pub returns-clause-whole : goal.returns-clause-whole
returns-clause-whole c =
    let at_port = sym c.place_of.ensures ∙ c.in-Some.is in
    let found = keeper_of-found c.args.keepers.now c.args.port c.in-Some.at c.index-keepers-at.result at_port in
    rw found (grind (arith, c.append.ensures.count))

pub returns-clause-listed : goal.returns-clause-listed
returns-clause-listed c =
    let at_port = sym c.place_of.ensures ∙ c.in-Some.is in
    λ some. LaneGains-appended c.args.keepers.now c.args.port c.in-Some.at c.index-keepers-at.result c.append.new.self c.append.result
    c.args.piece.now at_port c.append.ensures.count c.append.ensures.lane

pub returns-clause-part : goal.returns-clause-part
returns-clause-part c =
    let at_port = sym c.place_of.ensures ∙ c.in-Some.is in
    LaneGainsPart-appended c.args.keepers.now c.args.port c.in-Some.at c.index-keepers-at.result c.append.new.self c.append.result
    c.args.piece.now at_port c.append.ensures.count c.append.ensures.lane

pub returns-clause-unlisted : goal.returns-clause-unlisted
returns-clause-unlisted c =
    let at_port = sym c.place_of.ensures ∙ c.in-Some.is in
    λ none. absurd (some_or_none _ _ (keeper_of-found c.args.keepers.now c.args.port c.in-Some.at c.index-keepers-at.result at_port) none)

pub returns-clause-ports : goal.returns-clause-ports
returns-clause-ports c =
    map-written (λ keeper. keeper.port) c.args.keepers.now c.in-Some.at c.index-keepers-at.result c.append.new.self (ap (λ keeper. keeper.port) c.append.ensures.lane)

pub returns-clause-rooms : goal.returns-clause-rooms
returns-clause-rooms c =
    map-written (λ keeper. keeper.room) c.args.keepers.now c.in-Some.at c.index-keepers-at.result c.append.new.self (ap (λ keeper. keeper.room) c.append.ensures.lane)
