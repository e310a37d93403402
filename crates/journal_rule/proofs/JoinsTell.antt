-- The first join of each call of a lawful journal tells its end.
use Rattle.std.proofs.Common.{◌≡◌, ℕ, ◌+◌, ◌==◌, Bool, true, false, cond, List, [], ◌∷◌, find, Option, Some, None, is_some, refl, sym, ap, subst}
use Rattle.std.specs.Option.{option_map_or, option_and_then}
use Rattle.std.specs.List.{AllByRecursion}
use Rattle.std.proofs.lemmas.Bool.{false≢true}
use Rattle.std.proofs.lemmas.List.Elements.{recursion_from_All}
use Rattle.rpc_model.specs.declared.event.End.{End}
use Rattle.rpc_model.specs.declared.kinds.MapKind.{MapKind}
use Rattle.rpc_model.specs.declared.kinds.MergeKind.{MergeKind}
use Rattle.rpc_model.specs.declared.script.Script.{Script}
use Rattle.rpc_model.specs.declared.told.Told.TheVariants.{Unended}
use Rattle.rpc_model.specs.declared.journal.CallLog.{CallLog}
use Rattle.rpc_model.specs.State.{Run, end_of, attempts}
use Rattle.journal_rule.specs.Calls.{CallLine, call_lines, AreCallsOf}
use Rattle.journal_rule.specs.Runs.{run_of}
use Rattle.journal_rule.specs.Ends.{EndsAtLast}
use Rattle.journal_rule.specs.EndsText.{end_told, run_told}
use Rattle.journal_rule.specs.JoinsTell.{IsEnd, FirstJoinsTellEnds}

-- the first call of this number, which ends with its last entry
HasEnded : Script → Option CallLog → Type 0
HasEnded script found = (call : CallLog) × (found ≡ Some call) × EndsAtLast script call

abbrev line_at : ℕ → List CallLine → Option CallLine
line_at number lines = find (λ (line : CallLine). line.call == number) lines

abbrev call_at : ℕ → List CallLog → Option CallLog
call_at number calls = find (λ (call : CallLog). call.call == number) calls

-- a line with this number has a call with it
found : (script : Script) (lanes place number : ℕ) (line : CallLine) (lines : List CallLine) (calls : List CallLog) → AreCallsOf script lanes place lines calls
    → AllByRecursion (EndsAtLast script) calls → line_at number lines ≡ Some line → HasEnded script (call_at number calls)
unfolding HasEnded
found script lanes place number line [] calls are ends e = absurd cc
found script lanes place number line (l ∷ lines) [] are ends e = absurd are
found script lanes place number line (l ∷ lines) (c ∷ calls) (one, are) (end, ends) e =
    subst (λ b. HasEnded script (cond b (Some c) (call_at number calls))) (sym (ap (λ n. n == number) one.number))
    (at (l.call == number) e (found script lanes (place + 1) number line lines calls are ends))
  where
    at : (b : Bool) → cond b (Some l) (line_at number lines) ≡ Some line → (line_at number lines ≡ Some line → HasEnded script (call_at number calls))
        → HasEnded script (cond b (Some c) (call_at number calls))
    at true e rest = (c, refl, end)
    at false e rest = rest e

told_end : (number issued : ℕ) (end : Option End) → is_some end ≡ true → IsEnd (end_told number issued end)
told_end number issued None h = absurd (false≢true h)
told_end number issued (Some end) h = tt

told_run : (number : ℕ) (run : Option (Run MapKind MergeKind)) → is_some (option_and_then (λ (r : Run MapKind MergeKind). end_of r.state) run) ≡ true
    → IsEnd (option_map_or (run_told number) run (Unended number))
told_run number None h = absurd (false≢true h)
told_run number (Some run) h = told_end number (attempts run.state) (end_of run.state) h

pub first_joins_tell_ends : FirstJoinsTellEnds
unfolding HasEnded
first_joins_tell_ends script lanes journal calls ends number line e =
    let has = found script lanes 0 number line (call_lines script) journal.calls calls.calls (recursion_from_All (EndsAtLast script) journal.calls ends) e in
    subst (λ (o : Option CallLog). IsEnd (option_map_or (run_told number) (option_and_then (λ (call : CallLog). run_of script call call.log) o) (Unended number)))
    (sym has.1) (told_run number (run_of script has.0 has.0.log) has.2.ends)
