-- Commands that read nothing and write one text: they make no lane. This project's own.
use Rattle.std.specs.Prelude.{◌≡◌, ◌⊎◌, ◌∷◌, [], ℕ, List, Option, Some, ⊤}
use Rattle.fg_io.specs.Faults.{CountsFaults}
use Rattle.fg_commands.specs.declared.ended.Why.{Why}
use Rattle.fg_commands.specs.declared.ended.Why.TheVariants as why
use Rattle.fg_commands.specs.Behaviour.{Behaviour}
use Rattle.fg_commands.specs.Ended.{IsFault}

-- What such a command is for: what the sink has gained where all was done, and what a fault leaves of that.
pub record Printer : Type 1 where
  pub gains : Option (List ℕ) → Option (List ℕ) → Type 0
  pub part : Option (List ℕ) → Option (List ℕ) → Type 0

-- What prints nothing.
abbrev pub silent : Printer
silent = record { gains = λ written written'. written' ≡ written; part = λ written written'. written' ≡ written }

-- The behaviour of what reads nothing and makes no lane, and ends with this answer where nothing fails.
abbrev pub unread : Why → Printer → Behaviour
unread done does = record {
  is_answer = λ bytes answer. answer ≡ done;
  gains = λ answer input lanes lanes' written written'. (answer ≡ done) × (lanes' ≡ lanes) × does.gains written written';
  part = λ {K} input lanes lanes' written out out'. (lanes' ≡ lanes) × does.part (written out) (written out');
  stops = λ answer input lanes lanes'. lanes' ≡ lanes;
  at_read = λ input now lanes lanes'. ⊤;
  comes_back = λ answer input lanes lanes' written written'. ⊤;
  reads = λ answer bytes now. now ≡ Some bytes;
  reads_all = λ answer. ⊥;
  may_have_failed_to_read = λ answer. answer ≡ why.ReadFault;
  is_no_input = λ bytes. ⊥;
  reads_nothing = ⊤;
  writes_nothing = ⊥;
  makes_no_lane = ⊤;
  writes_last = ⊥;
}

-- A printer ends as done.
abbrev pub printer : Printer → Behaviour
printer = unread why.Done

-- A call that ends with this answer has done what the printer is for. `out` is the sink before it and `out'` after it, of which
-- `written` tells what it has, and `out_faults` how many faults it has counted.
pub record PrinterAnswered {K : Type 0}
    (does : Printer) (answer : Why) (written : K → Option (List ℕ)) (out_faults : K → ℕ) (out out' : K) : Type 0 where
  -- Where no fault and no want of memory ends it, all was done.
  pub whole : IsFault answer ⊎ ((answer ≡ why.Done) × does.gains (written out) (written out'))
  pub part : IsFault answer → does.part (written out) (written out')
  pub faults : CountsFaults (answer ≡ why.ReadFault) (answer ≡ why.WriteFault) [] ((out_faults out, out_faults out') ∷ [])
