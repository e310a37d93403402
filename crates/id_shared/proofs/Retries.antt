-- What holds while `post` tries again.
use Rattle.std.proofs.Common.{ℕ, List, [], ◌∷◌, ◌++◌, refl, ◌∙◌, subst, Option}
use Rattle.id_rule.specs.declared.view.Receipt.{Receipt}
use Rattle.id_shared.specs.Answers.{HasSeenEnd}
use Rattle.id_shared.specs.Claims.{KeepsClaims, KeepsErrors}
use Rattle.id_shared.specs.declared.answers.TryPost.TheVariants as post
use Rattle.id_shared.specs.Posts.{IsTriedPost, IsGonePost, HasRetried}
use Rattle.id_shared.specs.Standing.{Standing}
use Rattle.id_shared.proofs.Keeping.{kept_on}

module _ {T E : Type 0} (log : T → List E) (first_id : T → ℕ) (rec : E → Option Receipt) (slots id code : ℕ) where
  -- some tries were answered `Again`, and changed no claim and no error
  pub record IsRetrying (p q : Standing E) : Type 0 where
    pub tries : (xs : List (ℕ × ℕ)) × HasRetried log first_id rec slots id code p xs q
    pub gone : HasSeenEnd slots id p → HasSeenEnd slots id q
    pub claims : KeepsClaims p q
    pub errors : KeepsErrors p q

  -- one try more
  more_tries : (p q r : Standing E) (xs : List (ℕ × ℕ)) (word found : ℕ) → HasRetried log first_id rec slots id code p xs q → IsTriedPost log first_id rec slots id code q (post.Again word found) r
      → HasRetried log first_id rec slots id code p (xs ++ (word, found) ∷ []) r
  more_tries p q r [] word found was one = (r, subst (λ (z : Standing E). IsTriedPost log first_id rec slots id code z (post.Again word found) r) was one, refl)
  more_tries p q r (x ∷ xs) word found was one = (was.0, was.1, more_tries was.0 q r xs word found was.2 one)

  -- at first
  pub retries_first : (p : Standing E) → IsRetrying p p
  retries_first p = record { tries = ([], refl); gone = λ h. h; claims = λ slot r. ((λ h. h), (λ h. h), (λ h. h)); errors = (refl, refl) }

  -- after one that was answered `Again`
  pub retries_more : (p q r : Standing E) (word found : ℕ) → IsRetrying p q → IsTriedPost log first_id rec slots id code q (post.Again word found) r
      → (HasSeenEnd slots id q → IsGonePost {T = T} (post.Again word found)) → KeepsClaims q r → KeepsErrors q r → IsRetrying p r
  retries_more p q r word found was one gone claims errors = record {
    tries = (was.tries.0 ++ (word, found) ∷ [], more_tries p q r was.tries.0 word found was.tries.1 one);
    gone = λ h. absurd (gone (was.gone h));
    claims = λ slot. kept_on p.view q.view r.view slot (was.claims slot) (claims slot);
    errors = (errors.0 ∙ was.errors.0, errors.1 ∙ was.errors.1);
  }
