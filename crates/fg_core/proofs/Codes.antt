-- Calls and told things are read back as they were written.
use Rattle.std.proofs.Common.{◌≡◌, refl, ap}
use Rattle.std.specs.Prelude.{Some, None}
use Rattle.fg_playout.specs.declared.reply.Reply.{Reply}
use Rattle.fg_playout.specs.declared.reply.Reply.TheVariants.{Admitted, Duplicate, Conflict, Late, NotStarted, BeforeStart, Ahead, Crowded, Foreign}
use Rattle.fg_playout.specs.declared.reply.Outcome.{Outcome}
use Rattle.fg_playout.specs.declared.reply.Outcome.TheVariants.{Repaired, Inconsistent}
use Rattle.fg_desk.specs.declared.desk.Played.{Played}
use Rattle.fg_core.specs.Views.{Told, saw, word_at, equation_is}
use Rattle.fg_core.specs.Core.{Call, media, parity, play, flush, held, skip}
use Rattle.fg_core.specs.Codes.{reply_code, reply_from, outcome_code, outcome_from, call_code, call_from, told_code, told_from, played_from}

reply_back : (reply : Reply) → reply_from (reply_code reply) ≡ reply
reply_back Admitted = refl
reply_back Duplicate = refl
reply_back Conflict = refl
reply_back Late = refl
reply_back NotStarted = refl
reply_back BeforeStart = refl
reply_back Ahead = refl
reply_back Crowded = refl
reply_back Foreign = refl

outcome_back : (outcome : Outcome) → outcome_from (outcome_code outcome) ≡ outcome
outcome_back Repaired = refl
outcome_back Inconsistent = refl

played_back : (played : Played) → played_from played.first played.count (outcome_code played.verdict) ≡ played
played_back played = ap (λ (o : Outcome). record played { verdict = o }) (outcome_back played.verdict)

pub calls_read_back : (call : Call) → call_from (call_code call) ≡ call
calls_read_back (media seq ssrc word reply) = ap (media seq ssrc word) (reply_back reply)
calls_read_back (parity p reply None) = ap (λ (r : Reply). parity p r None) (reply_back reply)
calls_read_back (parity p reply (Some key)) = ap (λ (r : Reply). parity p r (Some key)) (reply_back reply)
calls_read_back (play played) = ap play (played_back played)
calls_read_back (flush None) = refl
calls_read_back (flush (Some played)) = ap (λ (q : Played). flush (Some q)) (played_back played)
calls_read_back (held time None) = refl
calls_read_back (held time (Some played)) = ap (λ (q : Played). held time (Some q)) (played_back played)
calls_read_back (skip None count) = refl
calls_read_back (skip (Some time) count) = refl

pub told_reads_back : (told : Told) → told_from (told_code told) ≡ told
told_reads_back (saw mark epoch admitted) = refl
told_reads_back (word_at epoch slot word) = refl
told_reads_back (equation_is serial equation) = refl
