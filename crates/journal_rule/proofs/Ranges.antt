-- Which ranges follow each other is decided.
use Rattle.std.proofs.Common.{◌≡◌, ℕ, ◌+◌, ◌==◌, Bool, true, false, nat_le, cond, List, [], ◌∷◌, All, refl, sym, subst}
use Rattle.std.specs.Bool.{Decides}
use Rattle.std.specs.List.{list_all, AllByRecursion}
use Rattle.std.proofs.lemmas.Bool.Decides.{Decides-eqb, Decides-and, Decides-like}
use Rattle.std.proofs.lemmas.List.Elements.{recursion_from_All, All-weaker}
use Rattle.rpc_model.specs.declared.script.Script.{Script}
use Rattle.rpc_model.specs.declared.journal.CallLog.{CallLog}
use Rattle.rpc_model.specs.declared.journal.Journal.{Journal}
use Rattle.journal_rule.specs.Ranges.{slot_in, version_in, slots, NamesSlot, calls_in_slot, sorted, Follow, HasRanges, names_slot, follow, has_place, has_ranges}
use Rattle.journal_rule.proofs.Decided.{always, at_most, each}

pub slot_decided : (count id : ℕ) → Decides (names_slot count id) (NamesSlot count id)
slot_decided count id = Decides-and (nat_le 1 (slot_in id)) (nat_le (slot_in id) count) (at_most 1 (slot_in id)) (at_most (slot_in id) count)

following : (version : ℕ) (calls : List CallLog) → Decides (follow version calls) (Follow version calls)
following version [] = always
following version (call ∷ calls) =
    Decides-and (version_in call.first == version) (follow (version + call.width) calls) (Decides-eqb (version_in call.first) version) (following (version + call.width) calls)

-- what holds of the slot of each call, and of a slot without a call, holds of each slot
each_slot : (P : ℕ → Type 0) (slot : ℕ) (calls : List CallLog) → AllByRecursion (λ (call : CallLog). P (slot_in call.first)) calls
    → (calls_in_slot slot calls ≡ [] → P slot) → P slot
each_slot P slot [] all none = none refl
each_slot P slot (call ∷ calls) (one, all) none =
    at (slot_in call.first == slot) (Decides-eqb (slot_in call.first) slot) none (each_slot P slot calls all)
  where
    at : (b : Bool) → Decides b (slot_in call.first ≡ slot) → (cond b (call ∷ calls_in_slot slot calls) (calls_in_slot slot calls) ≡ [] → P slot)
        → ((calls_in_slot slot calls ≡ [] → P slot) → P slot) → P slot
    at true same no_call rest = subst P (same.0 refl) one
    at false same no_call rest = rest no_call

pub ranges_decided : (script : Script) (lanes : ℕ) (journal : Journal) → Decides (has_ranges script lanes journal) (HasRanges script lanes journal)
ranges_decided script lanes journal =
    let count = slots script lanes in
    let all = journal.calls in
    let Q : ℕ → Type 0 = λ slot. Follow 1 (sorted (calls_in_slot slot all)) in
    let P : CallLog → Type 0 = λ call. NamesSlot count call.first × Q (slot_in call.first) in
    let slot : (call : CallLog) → Bool = λ call. names_slot count call.first in
    let row : (call : CallLog) → List CallLog = λ call. sorted (calls_in_slot (slot_in call.first) all) in
    let right : All P all → (s : ℕ) → Q s =
    λ h s.
    let by_call = recursion_from_All (λ call. Q (slot_in call.first)) all (All-weaker P (λ call. Q (slot_in call.first)) (λ call p. p.1) all h) in
    each_slot Q s all by_call (λ e. subst (λ cs. Follow 1 (sorted cs)) (sym e) tt) in
    Decides-like (list_all (has_place count all) all)
    (λ (h : All P all). record { places = All-weaker P (λ call. NamesSlot count call.first) (λ call p. p.0) all h; follow = right h })
    (λ (h : HasRanges script lanes journal). λ k d l. (h.places k d l, h.follow _))
    (each (has_place count all) P (λ call. Decides-and (slot call) (follow 1 (row call)) (slot_decided count call.first) (following 1 (row call))) all)
