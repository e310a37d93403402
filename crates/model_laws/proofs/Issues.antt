-- What a step of a leaf issues: no attempt, or one where another is left.
use Rattle.std.proofs.Common.{◌≡◌, ℕ, ◌+◌, ◌≤◌, ◌⊎◌, inl, inr, true, false, cond, ◌&&◌, ◌==◌, not, nat_le, None, is_none, arith, refl}
use Rattle.rpc_model.specs.declared.event.End.TheVariants.{Good, Bad}
use Rattle.rpc_model.specs.declared.event.Event.{Event}
use Rattle.rpc_model.specs.declared.event.Event.TheVariants.{Reply, Lost, Backup, Deadline, Cancel}
use Rattle.rpc_model.specs.Codes.{retriable}
use Rattle.rpc_model.specs.Leaf.{Leaf, leaf_step, is_live, is_attempt, may_issue, failed, answered, ended, retried, backed}

-- A step of a leaf issues no attempt, or one where another is left.
abbrev pub IssuesFew : ℕ → Leaf → Leaf → Type 0
IssuesFew retry before now = (now.issued ≡ before.issued) ⊎ ((now.issued ≡ before.issued + 1) × (before.issued ≤ retry))

failed-issues : (retry : ℕ) (leaf : Leaf) (attempt code : ℕ) → IssuesFew retry leaf (failed retry leaf attempt code)
failed-issues retry leaf attempt code =
    elim (is_attempt leaf.older attempt) as (λ b. IssuesFew retry leaf (cond b (record leaf { older = None }) (cond (may_issue retry leaf && retriable code) (retried leaf) (ended leaf (Bad code))))) [
      | true ↦ inl refl
      | false ↦ elim (nat_le leaf.issued retry) as (λ b. nat_le leaf.issued retry ≡ b → IssuesFew retry leaf (cond (b && retriable code) (retried leaf) (ended leaf (Bad code)))) [
        | true ↦ λ left. elim (retriable code) as (λ b. IssuesFew retry leaf (cond b (retried leaf) (ended leaf (Bad code)))) [ true ↦ inr (refl, grind arith) | false ↦ inl refl ]
        | false ↦ λ none. inl refl
      ] refl
    ]

pub leaf_step-issues : (retry : ℕ) (leaf : Leaf) (e : Event) → IssuesFew retry leaf (leaf_step retry leaf e)
leaf_step-issues retry leaf (Reply node attempt code text) =
    elim (is_live leaf attempt) as (λ b. IssuesFew retry leaf (cond b (answered retry leaf attempt code text) leaf)) [
      | true ↦ elim (code == 0) as (λ b. IssuesFew retry leaf (cond b (ended leaf (Good text)) (failed retry leaf attempt code))) [ true ↦ inl refl | false ↦ failed-issues retry leaf attempt code ]
      | false ↦ inl refl
    ]
leaf_step-issues retry leaf (Lost node attempt code) =
    elim (is_live leaf attempt) as (λ b. IssuesFew retry leaf (cond b (failed retry leaf attempt code) leaf)) [ true ↦ failed-issues retry leaf attempt code | false ↦ inl refl ]
leaf_step-issues retry leaf (Backup node) =
    elim (is_none leaf.end) as (λ b. IssuesFew retry leaf (cond (b && (not leaf.backed_up && may_issue retry leaf)) (backed leaf) leaf)) [
      | true ↦ elim leaf.backed_up as (λ b. IssuesFew retry leaf (cond (not b && may_issue retry leaf) (backed leaf) leaf)) [
        | true ↦ inl refl
        | false ↦ elim (nat_le leaf.issued retry) as (λ b. nat_le leaf.issued retry ≡ b → IssuesFew retry leaf (cond b (backed leaf) leaf))
            [ true ↦ λ left. inr (refl, grind arith) | false ↦ λ none. inl refl ] refl
      ]
      | false ↦ inl refl
    ]
leaf_step-issues retry leaf (Deadline node) =
    elim (is_none leaf.end) as (λ b. IssuesFew retry leaf (cond b (ended leaf (Bad 1008)) leaf)) [ true ↦ inl refl | false ↦ inl refl ]
leaf_step-issues retry leaf Cancel = inl refl

pub few-issues : (retry : ℕ) (before now : Leaf) → IssuesFew retry before now → (now.issued ≡ before.issued) ⊎ (now.issued ≡ before.issued + 1)
few-issues retry before now (inl same) = inl same
few-issues retry before now (inr more) = inr more.0

pub few-bound : (retry : ℕ) (before now : Leaf) → IssuesFew retry before now → 1 ≤ before.issued → before.issued ≤ 1 + retry → (1 ≤ now.issued) × (now.issued ≤ 1 + retry)
few-bound retry before now (inl same) some few = (omega (arith, same), omega (arith, same))
few-bound retry before now (inr more) some few = (omega (arith, more.0), omega (arith, more.0, more.1))
