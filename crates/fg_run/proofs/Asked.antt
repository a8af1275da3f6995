-- What holds of the request that was read holds of each that the words ask for, since there is one; and where nothing was touched
-- for want of memory, any request is answered so.
use Rattle.std.proofs.Common.{◌≡◌, inl, inr, ℕ, List, Option, refl, subst}
use Rattle.fg_io.specs.Laws.{NoneIsPart}
use Rattle.fg_io.specs.Outlet.{Lanes}
use Rattle.fg_cli.specs.declared.WordFault.{WordFault}
use Rattle.fg_commands.specs.declared.ended.Why.{Why}
use Rattle.fg_commands.specs.declared.ended.Why.TheVariants as why
use Rattle.fg_commands.specs.Answered.{RequestAnswered}
use Rattle.fg_commands.proofs.Lawful.{not_begun}
use Rattle.fg_run.specs.declared.request.Request.{Request}
use Rattle.fg_run.specs.declared.request.Request.TheVariants.{Refused}
use Rattle.fg_run.specs.Answered.{WordsAnswered}
use Rattle.fg_run.specs.Behaviours.{behaviour_of}
use Rattle.fg_run.specs.Laws.{OneRequest}
use Rattle.fg_run.specs.Request.{Asks}
use Rattle.fg_run.proofs.Behaviours.{lawful}

-- what was read is what the words ask for
pub words_answered : {S O K : Type 0} {left : S → Option (List ℕ)} {input_faults : S → ℕ} {input input' : S}
    {lanes_of : O → Option Lanes} {lane_faults : O → ℕ} {lanes lanes' : O} {written : K → Option (List ℕ)} {out_faults : K → ℕ} {out out' : K}
    → OneRequest → (words : List (List ℕ)) (request : Request) (answer : Why) → Asks words request
    → RequestAnswered (behaviour_of request) answer left input_faults input input' lanes_of lane_faults lanes lanes' written out_faults out out'
    → ((fault : WordFault) → answer ≡ why.Words fault → request ≡ Refused fault)
    → WordsAnswered words answer left input_faults input input' lanes_of lane_faults lanes lanes' written out_faults out out'
words_answered {S} {O} {K} {left} {input_faults} {input} {input'} {lanes_of} {lane_faults} {lanes} {lanes'} {written} {out_faults} {out} {out'} one words request answer asked done refused = record {
  answered = λ other k. subst (λ r. RequestAnswered (behaviour_of r) answer left input_faults input input' lanes_of lane_faults lanes lanes' written out_faults out out') (one words request other asked k) done;
  asked = inr (request, asked);
  words = λ fault e. subst (λ r. Asks words r) (refused fault e) asked;
}

-- without memory for what was read nothing is begun
pub words_not_begun : {S O K : Type 0} {left : S → Option (List ℕ)} {input_faults : S → ℕ} {input : S}
    {lanes_of : O → Option Lanes} {lane_faults : O → ℕ} {lanes : O} {written : K → Option (List ℕ)} {out_faults : K → ℕ} {out : K}
    → NoneIsPart → (words : List (List ℕ))
    → WordsAnswered words why.Memory left input_faults input input lanes_of lane_faults lanes lanes written out_faults out out
words_not_begun none words = record {
  answered = λ request h. not_begun (behaviour_of request) (lawful none request) _ _ _ _ _ _ _ _ _;
  asked = inl refl;
  words = λ fault e. absurd (let a = e in cc);
}
