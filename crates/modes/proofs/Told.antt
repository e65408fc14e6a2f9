-- What a recorded device is told to be, and what is written of it.
use Rattle.std.proofs.Common.{◌≡◌, ℕ, ◌<◌, Bool, true, false, List, length, refl, sym, ap, ◌∙◌, arith}
use Rattle.std.specs.Prelude.{IfErr, IfOk, Ok, Err, OnErr, OnOk, Option, Result, nat_lt, slice_index, sum}
use Rattle.std.proofs.lemmas.Bool.{false≢true}
use Rattle.std.proofs.lemmas.Bool.Decides.{nat_tests}
use Rattle.std.proofs.lemmas.List.{get_or_past}
use Rattle.std.proofs.lemmas.List.Sums.{get_or-le-sum_by}
use Rattle.device.specs.World.{World, answers}
use Rattle.device_lock.specs.Rest.{IsAtRest}
use Rattle.history.specs.Entries.{events}
use Rattle.recorder.specs.Held.{Held, folded}
use Rattle.recorder.specs.Legal.{Legal, calls_of}
use Rattle.script.specs.Reading.{Meaning}
use Rattle.modes.specs.declared.report.Report.{Report}
use Rattle.modes.specs.declared.fault.Fault.{Fault}
use Rattle.modes.specs.declared.fault.Fault.TheVariants.{BadScript, NoSuchVf, Usage, Io, NoMemory, HistoryFull}
use Rattle.modes.specs.Faults.{is_late}
use Rattle.modes.specs.Program.{device_of, Says}
use Rattle.modes.specs.Report.{report_text, BeganToReport, Reported, Tells}
use Rattle.modes.specs.Threads.{is_of_run, AreOfScript, BeganReport, BeganThreads, IsRecordingOf, IsReportOn, StopsFor, WroteReport, WroteThreads}

-- ---- where no calls were folded away

zero_in : (xs : List ℕ) (n : ℕ) → sum xs ≡ 0 → slice_index xs n ≡ 0
zero_in xs n none = go (nat_lt n (length xs)) refl
  where
    go : (inside : Bool) → nat_lt n (length xs) ≡ inside → slice_index xs n ≡ 0
    go true is =
        let less : n < length xs = grind (arith, nat_tests) in
        let part = get_or-le-sum_by (λ (x : ℕ). x) xs n 0 less in
        omega (arith, part, none)
    go false is = get_or_past xs n 0 (grind (arith, nat_tests))

kept_alone : (held : Held) (other : World) (report : Report) (n : ℕ) → folded held ≡ 0 → Tells held other report → n < 67 → slice_index report.calls n ≡ calls_of n held.kept
kept_alone held other report n none tells below =
    let told = tells.calls n below in
    let zero = zero_in held.tallies n none in
    omega (arith, told, zero)

is_report : (held : Held) (other : World) (report : Report) → folded held ≡ 0 → held.base ≡ other → Legal held.base held.kept held.live → Tells held other report → IsReportOn held (report_text report)
is_report held other report none base legal tells =
    let replays : report.replays ≡ true = tells.replays.1 (ap (λ (w : World). answers w (events held.kept)) (sym base) ∙ legal.leads.answers) in
    record {
      calls = report.calls;
      callers = tells.callers;
      each = λ n below. kept_alone held other report n none tells below;
      is = λ i. report_text (record { kept = tells.kept i; calls = report.calls; replays = replays i });
    }

-- ---- what is written

-- a recording that began at the script's device, whose calls are the script's
recording_of : (script : Meaning) (held : Held) (other : World) → held.base ≡ other → other ≡ device_of script.device → IsAtRest held → AreOfScript script held.kept → IsRecordingOf script held
recording_of script held other base is rest calls = record { base = base ∙ is; legal = rest.legal; calls = calls }

pub wrote_report : {R : Type 0} (r : Result R Fault) (script : Meaning) (held : Held) (other : World) (a b : Option (List ℕ)) → folded held ≡ 0 → held.base ≡ other → other ≡ device_of script.device → IsAtRest held
    → AreOfScript script held.kept → OnOk r (Reported held other a b) → OnOk r (WroteReport script a b)
wrote_report (Ok v) script held other a b none base is rest calls (report, tells, wrote) =
    (held, recording_of script held other base is rest calls, report_text report, is_report held other report none base rest.legal tells, wrote)
wrote_report (Err e) script held other a b none base is rest calls wrote = tt

pub began_report : {R : Type 0} (r : Result R Fault) (script : Meaning) (held : Held) (other : World) (a b : Option (List ℕ)) → folded held ≡ 0 → held.base ≡ other → other ≡ device_of script.device → IsAtRest held
    → AreOfScript script held.kept → OnErr r (BeganToReport held other a b) → OnErr r (BeganReport script a b)
began_report (Ok v) script held other a b none base is rest calls began = tt
began_report (Err e) script held other a b none base is rest calls (report, tells, began) =
    (held, recording_of script held other base is rest calls, report_text report, is_report held other report none base rest.legal tells, began)

-- ---- faults

pub late_of_run : (e : Fault) → is_late e ≡ true → is_of_run e ≡ true
late_of_run (BadScript n) late = late
late_of_run NoSuchVf late = late
late_of_run Usage late = late
late_of_run Io late = refl
late_of_run NoMemory late = refl
late_of_run HistoryFull late = refl

pub stops_run : (input : Option (List ℕ)) (script : Meaning) (e : Fault) → Says input script → is_of_run e ≡ true → StopsFor input e
stops_run input script (BadScript n) says stops = absurd (false≢true stops)
stops_run input script NoSuchVf says stops = absurd (false≢true stops)
stops_run input script Usage says stops = absurd (false≢true stops)
stops_run input script Io says stops = tt
stops_run input script NoMemory says stops = tt
stops_run input script HistoryFull says stops = (script, says)

-- ---- by the input

pub wrote_threads : {R E : Type 0} (r : Result (Result R E) E) (input : Option (List ℕ)) (script : Meaning) (a b : Option (List ℕ)) → Says input script
    → IfOk r (λ played. OnOk played (WroteReport script a b)) → IfOk r (λ played. OnOk played (WroteThreads input a b))
wrote_threads (Ok (Ok v)) input script a b says wrote = (script, says, wrote)
wrote_threads (Ok (Err e)) input script a b says wrote = tt
wrote_threads (Err e) input script a b says wrote = tt

pub began_threads : {R E : Type 0} (r : Result (Result R E) E) (input : Option (List ℕ)) (script : Meaning) (a b : Option (List ℕ)) → Says input script
    → IfOk r (λ played. OnErr played (BeganReport script a b)) → IfOk r (λ played. OnErr played (BeganThreads input a b))
began_threads (Ok (Ok v)) input script a b says began = tt
began_threads (Ok (Err e)) input script a b says began = (script, says, began)
began_threads (Err e) input script a b says began = tt
