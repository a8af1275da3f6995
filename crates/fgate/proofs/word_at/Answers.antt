-- What the buffer holds is taken.
use Rattle.std.proofs.Common.{string_bytes}
use Rattle.fgate.proofs.WordLemmas.{told_taken}
use Rattle.fgate.proofs.word_at.Goals as goal

pub returns-in_ok-word_of-in-Ok : goal.returns-in_ok-word_of-in-Ok
returns-in_ok-word_of-in-Ok g c =
    told_taken (g.C.Called.told c.args.called.now) c.args.place c.in-Ok.length c.word.new.into (string_bytes c.in_ok-word_of-in-Ok.field-0)
    c.in-Ok.ensures.room c.in-Ok.ensures.bound c.in-Ok.ensures.tells c.in_ok-word_of-in-Ok.ensures.text c.in_ok-word_of-in-Ok.ensures.no_text
