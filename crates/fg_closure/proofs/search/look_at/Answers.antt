use Rattle.fg_closure.proofs.Searches.{way_on}
use Rattle.fg_closure.proofs.Watching.{watched_without, looked_at, no_more_left}
use Rattle.fg_closure.proofs.search.look_at.Goals as goal

pub flag_missing-missing-requires : goal.flag_missing-missing-requires
flag_missing-missing-requires c = c.requires.flags c.args.place c.in-Some.line c.in-Some.is

pub returns-in_default-clause-watched : goal.returns-in_default-clause-watched
returns-in_default-clause-watched c =
    watched_without c.args.first c.args.place c.args.lines.now c.args.watches.now c.args.flags.now c.in_default.is c.requires.watched

pub returns-clause-watched : goal.returns-clause-watched
returns-clause-watched c =
    looked_at c.args.first c.args.place c.args.lines.now c.args.flags.now c.flag_missing-missing.new.flags c.in-Some.line
    (c.requires.flags c.args.place c.in-Some.line c.in-Some.is) c.in-Some.is c.requires.places c.flag_missing-missing.result c.args.watches.now
    c.follow.new.watches c.flag_missing-missing.ensures.told c.flag_missing-missing.ensures.filled c.follow.ensures c.requires.watched

pub returns-clause-way : goal.returns-clause-way
returns-clause-way c desk =
    way_on desk c.args.first c.args.place c.in-Some.line c.args.lines.now c.args.flags.now c.flag_missing-missing.new.flags c.flag_missing-missing.result
    (c.requires.flags c.args.place c.in-Some.line c.in-Some.is) c.in-Some.is c.flag_missing-missing.ensures.told c.flag_missing-missing.ensures.filled

pub returns-clause-left : goal.returns-clause-left
returns-clause-left c =
    no_more_left c.args.first c.args.place c.in-Some.line c.args.flags.now c.flag_missing-missing.new.flags c.flag_missing-missing.result c.args.watches.now
    c.follow.new.watches (c.requires.flags c.args.place c.in-Some.line c.in-Some.is) c.flag_missing-missing.ensures.told c.flag_missing-missing.ensures.filled
    c.follow.ensures c.requires.queue
