-- What is true of a request's behaviour whatever its call does, and what follows where nothing was touched.
use Rattle.std.proofs.Common.{◌≡◌, inl, inr, ℕ, List, [], ◌∷◌, Option, None, Some, IfSome, refl, arith}
use Rattle.fg_io.specs.Outlet.{Lanes}
use Rattle.fg_results.specs.Counted.{CountsAhead}
use Rattle.fg_commands.specs.declared.ended.Why.{Why}
use Rattle.fg_commands.specs.declared.ended.Why.TheVariants as why
use Rattle.fg_commands.specs.Answered.{RequestAnswered}
use Rattle.fg_commands.specs.Behaviour.{Behaviour}
use Rattle.fg_commands.specs.Ended.{IsFault}

-- An answer with which a fault of reading may have been counted is a fault's, or want of memory. And want of memory may leave all as
-- it was: what is as it was is a part, stopped before it was begun, nothing need come back, and nothing was read.
pub record Lawful (does : Behaviour) : Type 1 where
  pub breaks : (answer : Why) → does.may_have_failed_to_read answer → IsFault answer
  pub part : {K : Type 0} → (input : Option (List ℕ)) (lanes : Option Lanes) (written : K → Option (List ℕ)) (out : K) → does.part input lanes lanes written out out
  pub stops : (input : Option (List ℕ)) (lanes : Option Lanes) → does.stops why.Memory input lanes lanes
  pub comes_back : (input : Option (List ℕ)) (lanes : Option Lanes) (written : Option (List ℕ)) → does.comes_back why.Memory input lanes lanes written written
  pub reads : (bytes : List ℕ) → does.reads why.Memory bytes (Some bytes)
  pub reads_all : does.reads_all why.Memory → ⊥

-- what holds whatever the bytes are holds where they are told
pub told : {A : Type 0} (input : Option A) (P : A → Type 0) → ((bytes : A) → P bytes) → IfSome input P
told None P h = tt
told (Some bytes) P h = h bytes

-- what has no wrong input
pub none_wrong : {A : Type 0} (input : Option A) (P : Type 0) → IfSome input (λ bytes. ⊥ → P)
none_wrong None P = tt
none_wrong (Some bytes) P = λ no. absurd no

-- what is left to read is all that there was
reads_none : (does : Behaviour) → Lawful does → (input : Option (List ℕ)) → IfSome input (λ bytes. does.reads why.Memory bytes input)
reads_none does law None = tt
reads_none does law (Some bytes) = law.reads bytes

-- a call that touches nothing, and answers no fault of reading or writing
pub untouched_counts : {B R W : Type 0} {input out lanes : ℕ} → (R → ⊥) → (W → ⊥)
    → CountsAhead B R W ((input, input) ∷ []) ((out, out) ∷ (lanes, lanes) ∷ [])
untouched_counts no_read no_write = record {
  read = λ r. absurd (no_read r);
  write = λ w. absurd (no_write w);
  no_read = λ no. refl;
  no_write = λ no. (refl, refl);
  rise = omega arith;
  sinks_rise = (omega arith, omega arith);
}

-- without memory nothing is begun
pub not_begun : {S O K : Type 0} (does : Behaviour) → Lawful does
    → (left : S → Option (List ℕ)) (input_faults : S → ℕ) (input : S) (lanes_of : O → Option Lanes) (lane_faults : O → ℕ) (lanes : O)
    (written : K → Option (List ℕ)) (out_faults : K → ℕ) (out : K)
    → RequestAnswered does why.Memory left input_faults input input lanes_of lane_faults lanes lanes written out_faults out out
not_begun does law left input_faults input lanes_of lane_faults lanes written out_faults out = record {
  answers = inl tt;
  comes_back = law.comes_back (left input) (lanes_of lanes) (written out);
  exactly = told (left input) _ (λ bytes due h. inl tt);
  complete = told (left input) _ (λ bytes due h a b c. inr refl);
  part = λ fault. law.part (left input) (lanes_of lanes) written out;
  stops = λ fault. law.stops (left input) (lanes_of lanes);
  at_read = λ e. let a = e in cc;
  no_report = λ last e. refl;
  counts = untouched_counts (λ e. let a = e in cc) (λ e. let a = e in cc);
  nothing_read = λ h. refl;
  nothing_written = λ h. refl;
  no_lane = λ h. refl;
  no_input = told (left input) _ (λ bytes h. (refl, refl));
  reads = reads_none does law (left input);
  all_read = λ h. absurd (law.reads_all h);
}

-- Where the answer is neither a fault nor want of memory, no fault of reading was counted.
pub any_counts : {sources sinks : List (ℕ × ℕ)} → (does : Behaviour) → Lawful does → (answer : Why)
    → CountsAhead (does.may_have_failed_to_read answer) (answer ≡ why.ReadFault) (answer ≡ why.WriteFault) sources sinks
    → CountsAhead (IsFault answer) (answer ≡ why.ReadFault) (answer ≡ why.WriteFault) sources sinks
any_counts does law answer h = record {
  read = h.read;
  write = h.write;
  no_read = λ no. h.no_read (λ b. no (law.breaks answer b));
  no_write = h.no_write;
  rise = h.rise;
  sinks_rise = h.sinks_rise;
}
