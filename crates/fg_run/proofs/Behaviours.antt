-- What is true of each request's behaviour.
use Rattle.std.proofs.Common.{◌≡◌, List, ℕ, refl, sym, ◌∙◌}
use Rattle.fg_io.specs.Laws.{NoneIsPart}
use Rattle.fg_trace.specs.Laws.{OneTrace}
use Rattle.fg_encode.specs.Stream.{OneCut}
use Rattle.fg_check.specs.Laws.{OneCheck, OneListOfAnswers, OneTold}
use Rattle.fg_pcap.specs.Laws.{OneCapture, OneSpelling}
use Rattle.fg_shape.specs.declared.encoding.Losses.{Losses}
use Rattle.fg_shape.specs.declared.encoding.Settings.{Settings}
use Rattle.fg_flows.specs.declared.Plan.{Plan}
use Rattle.fg_cli.specs.declared.Order.{Order}
use Rattle.fg_cli.specs.declared.Order.TheVariants.{Repair, Encode, Drill, Inspect, Sample, FromCapture, ToCapture, Monitor, Prove, Check, ChooseMatrix, Survey, Pick}
use Rattle.fg_commands.specs.declared.ended.Why.{Why}
use Rattle.fg_commands.proofs.Encoded as encoded
use Rattle.fg_commands.proofs.FromCapture as from_capture
use Rattle.fg_commands.proofs.Inspected as inspected
use Rattle.fg_commands.proofs.Judged as judged
use Rattle.fg_commands.proofs.Lawful.{Lawful}
use Rattle.fg_commands.proofs.Monitored as monitored
use Rattle.fg_commands.proofs.Picked as picked
use Rattle.fg_commands.proofs.Planned as planned
use Rattle.fg_commands.proofs.Proved as proved
use Rattle.fg_commands.proofs.Questions as questions
use Rattle.fg_commands.proofs.Streams as streams
use Rattle.fg_commands.proofs.Surveyed as surveyed
use Rattle.fg_commands.proofs.ToCapture as to_capture
use Rattle.fg_commands.proofs.Traces as traces
use Rattle.fg_run.specs.declared.request.Request.{Request}
use Rattle.fg_run.specs.declared.request.Request.TheVariants.{Asked, Ordered, Refused}
use Rattle.fg_run.specs.Behaviours.{behaviour_of}
use Rattle.fg_run.proofs.Drilled as drilled
use Rattle.fg_run.proofs.Refused as refused
use Rattle.fg_run.proofs.Repaired as repaired
use Rattle.fg_run.proofs.Sampled as sampled

pub lawful : NoneIsPart → (request : Request) → Lawful (behaviour_of request)
lawful none (Asked question) = questions.lawful none question
lawful none (Refused fault) = refused.lawful fault
lawful none (Ordered (Repair plan)) = repaired.lawful plan
lawful none (Ordered (Encode settings max)) = encoded.lawful none settings max
lawful none (Ordered (Drill settings plan losses max)) = drilled.lawful settings plan losses max
lawful none (Ordered (Inspect table max)) = inspected.lawful none table max
lawful none (Ordered (Sample seed datagrams loss plan)) = sampled.lawful none seed datagrams loss plan
lawful none (Ordered (FromCapture max)) = from_capture.lawful none max
lawful none (Ordered (ToCapture max)) = to_capture.lawful none max
lawful none (Ordered (Monitor max)) = monitored.lawful none max
lawful none (Ordered (Prove plan)) = proved.lawful none plan
lawful none (Ordered (Check max)) = judged.lawful none max
lawful none (Ordered (ChooseMatrix burst most rows)) = planned.lawful none burst most rows
lawful none (Ordered (Survey max json)) = surveyed.lawful none json max
lawful none (Ordered (Pick selection max)) = picked.lawful none selection max

-- over the bytes of an input it has at most one answer
pub one_answer : OneTrace → OneCut → OneCapture → OneSpelling → OneCheck → OneListOfAnswers → OneTold → (request : Request) (bytes : List ℕ) (one other : Why)
    → (behaviour_of request).is_answer bytes one → (behaviour_of request).is_answer bytes other → one ≡ other
one_answer t c p s o a l (Asked question) bytes one other h k = h ∙ sym k
one_answer t c p s o a l (Refused fault) bytes one other h k = h ∙ sym k
one_answer t c p s o a l (Ordered (Repair plan)) bytes one other h k = traces.one_answer t plan.max bytes one other h k
one_answer t c p s o a l (Ordered (Encode settings max)) bytes one other h k = streams.one_answer c settings.packets max bytes one other h k
one_answer t c p s o a l (Ordered (Drill settings plan losses max)) bytes one other h k = streams.one_answer c settings.packets max bytes one other h k
one_answer t c p s o a l (Ordered (Inspect table max)) bytes one other h k = traces.one_answer t max bytes one other h k
one_answer t c p s o a l (Ordered (Sample seed datagrams loss plan)) bytes one other h k = h ∙ sym k
one_answer t c p s o a l (Ordered (FromCapture max)) bytes one other h k = from_capture.one_answer p max bytes one other h k
one_answer t c p s o a l (Ordered (ToCapture max)) bytes one other h k = to_capture.one_answer s max bytes one other h k
one_answer t c p s o a l (Ordered (Monitor max)) bytes one other h k = streams.one_answer c 1 max bytes one other h k
one_answer t c p s o a l (Ordered (Prove plan)) bytes one other h k = traces.one_answer t plan.max bytes one other h k
one_answer t c p s o a l (Ordered (Check max)) bytes one other h k = judged.one_answer o a l max bytes one other h k
one_answer t c p s o a l (Ordered (ChooseMatrix burst most rows)) bytes one other h k = h ∙ sym k
one_answer t c p s o a l (Ordered (Survey max json)) bytes one other h k = traces.one_answer t max bytes one other h k
one_answer t c p s o a l (Ordered (Pick selection max)) bytes one other h k = traces.one_answer t max bytes one other h k

-- An order that is none of those that make lanes makes none.
pub no_lane : (order : Order) → ((plan : Plan) → order ≡ Repair plan → ⊥)
    → ((settings : Settings) (plan : Plan) (losses : Losses) (max : ℕ) → order ≡ Drill settings plan losses max → ⊥)
    → ((seed datagrams loss : ℕ) (plan : Plan) → order ≡ Sample seed datagrams loss plan → ⊥) → (behaviour_of (Ordered order)).makes_no_lane
no_lane (Repair plan) repairs drills samples = absurd (repairs plan refl)
no_lane (Encode settings max) repairs drills samples = tt
no_lane (Drill settings plan losses max) repairs drills samples = absurd (drills settings plan losses max refl)
no_lane (Inspect table max) repairs drills samples = tt
no_lane (Sample seed datagrams loss plan) repairs drills samples = absurd (samples seed datagrams loss plan refl)
no_lane (FromCapture max) repairs drills samples = tt
no_lane (ToCapture max) repairs drills samples = tt
no_lane (Monitor max) repairs drills samples = tt
no_lane (Prove plan) repairs drills samples = tt
no_lane (Check max) repairs drills samples = tt
no_lane (ChooseMatrix burst most rows) repairs drills samples = tt
no_lane (Survey max json) repairs drills samples = tt
no_lane (Pick selection max) repairs drills samples = tt
