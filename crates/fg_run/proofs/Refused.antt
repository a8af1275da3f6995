-- A refusal is what a request that words break a rule is answered with.
use Rattle.std.proofs.Common.{◌≡◌, ◌⊎◌, inl, inr, ℕ, Option, None, Some, IfSome, List, refl, sym}
use Rattle.fg_io.specs.Outlet.{Lanes}
use Rattle.fg_cli.specs.declared.WordFault.{WordFault}
use Rattle.fg_commands.specs.declared.ended.Why.{Why}
use Rattle.fg_commands.specs.declared.ended.Why.TheVariants as why
use Rattle.fg_commands.specs.Answered.{RequestAnswered}
use Rattle.fg_commands.specs.Ended.{IsFault}
use Rattle.fg_commands.proofs.Filters.{read_breaks, stays}
use Rattle.fg_commands.proofs.Lawful.{Lawful, none_wrong, untouched_counts}
use Rattle.fg_run.specs.Behaviours.{refusal}

refused_told : (input : Option (List ℕ)) (fault : WordFault)
    → IfSome input (λ bytes. (due : Why) → due ≡ why.Words fault → IsFault (why.Words fault) ⊎ (why.Words fault ≡ due))
refused_told None fault = tt
refused_told (Some bytes) fault = λ due is. inr (sym is)

refused_complete : (input : Option (List ℕ)) (fault : WordFault) (R W L : Type 0)
    → IfSome input (λ bytes. (due : Why) → due ≡ why.Words fault → ¬ R → ¬ W → ¬ L → (why.Words fault ≡ due) ⊎ (why.Words fault ≡ why.Memory))
refused_complete None fault R W L = tt
refused_complete (Some bytes) fault R W L = λ due is no_read no_write no_lane. inl (sym is)

pub refusal_answered : {S O K : Type 0} {left : S → Option (List ℕ)} {input_faults : S → ℕ} {input : S}
    {lanes_of : O → Option Lanes} {lane_faults : O → ℕ} {lanes : O} {written : K → Option (List ℕ)} {out_faults : K → ℕ} {out : K}
    → (fault : WordFault)
    → RequestAnswered (refusal fault) (why.Words fault) left input_faults input input lanes_of lane_faults lanes lanes written out_faults out out
refusal_answered fault = record {
  answers = inr (refl, refl, refl);
  comes_back = tt;
  exactly = refused_told _ fault;
  complete = refused_complete _ fault _ _ _;
  part = λ h. absurd h;
  stops = λ h. absurd h;
  at_read = λ e. tt;
  no_report = λ last e. refl;
  counts = untouched_counts (λ e. let a = e in cc) (λ e. let a = e in cc);
  nothing_read = λ h. refl;
  nothing_written = λ h. refl;
  no_lane = λ h. refl;
  no_input = none_wrong _ _;
  reads = stays _;
  all_read = λ h. absurd h;
}

pub lawful : (fault : WordFault) → Lawful (refusal fault)
lawful fault = record {
  breaks = read_breaks;
  part = λ {K} input lanes written out. (refl, refl);
  stops = λ input lanes. refl;
  comes_back = λ input lanes written. tt;
  reads = λ bytes. refl;
  reads_all = λ no. no;
}
