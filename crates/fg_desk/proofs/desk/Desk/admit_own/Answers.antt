use Rattle.std.proofs.Common.{sym, subst, ◌∙◌}
use Rattle.fg_words.specs.declared.Word.{Word}
use Rattle.fg_playout.specs.declared.reply.Reply.TheVariants.{Admitted}
use Rattle.fg_playout.specs.Admission.{IsReplyAt}
use Rattle.fg_desk.specs.Parts.{top_of}
use Rattle.fg_desk.proofs.DeskBegins.{holds_with_own}
use Rattle.fg_desk.proofs.desk.Desk.admit_own.Goals as goal

pub take-requires-clause-holds : goal.take-requires-clause-holds
take-requires-clause-holds c =
    holds_with_own c.args.self.now.state c.args.seq c.args.top.ssrc c.in-Some.position (top_of c.args.top) c.args.share
    c.requires.holds c.requires.own (sym c.position.ensures.value ∙ c.in-Some.is)
    (subst (λ (word : Word). IsReplyAt c.args.self.now.state c.in-Some.position word Admitted) c.word.ensures.word
    c.in-Admitted.ensures)
    c.requires.media c.requires.not_due
