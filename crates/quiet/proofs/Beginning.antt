-- A fresh system is orderly, with the opening view accepted.
use Prim.Native.Nat.{ℕ, ◌≤◌}
use mathlib.Core.Path.{◌≡◌, refl}
use mathlib.Core.Bool.{true}
use native.Mathlib.Omega.{arith}
use Rattle.view.specs.Logic.{pick, is_one_of}
use Rattle.view.specs.View.{has, everyone, first_from, least_of}
use Rattle.view.proofs.Laws.{one_of}
use Rattle.view.proofs.Sets.{everyone-has}
use Rattle.system.specs.declared.Process.{Process}
use Rattle.system.specs.declared.System.{System}
use Rattle.system.specs.System.{no_process, variables_at}
use Rattle.system.specs.Fresh.{fresh_variables, fresh_process, fresh_system}
use Rattle.step.proofs.Beginning.{each_fresh, fresh_variables_lem}
use Rattle.agreement.specs.Accepted.{accepted}
use Rattle.agreement.proofs.Beginning.{fresh_proposal}
use Rattle.view.proofs.Members.{everyone_least}
use Rattle.quiet.proofs.Opening.{Opened, opening, opened_facts, fresh_opened}
use Rattle.quiet.proofs.Proposals.{fresh_proposals}
use Rattle.quiet.proofs.Standing.{Untouched, Standing}
use Rattle.quiet.proofs.Pursuit.{Pursuit}
use Rattle.quiet.proofs.Orderly.{gone, Orderly}

module _ (n : ℕ) (size : is_one_of 8 n ≡ true) where
  abbrev s : System
  s = fresh_system n

  fresh : (p : ℕ) → 1 ≤ p → p ≤ n → variables_at s p ≡ fresh_variables n
  fresh p low high = fresh_variables_lem n p low (omega (arith, one_of 8 n size))

  fresh_untouched : (p : ℕ) → 1 ≤ p → (least_of (variables_at s p).view).0 ≡ p → Untouched n (variables_at s p)
  unfolding fresh_process fresh_variables no_process least_of first_from has pick
  fresh_untouched p low =
      each_fresh n (λ (x : Process). (least_of x.variables.view).0 ≡ p → Untouched n x.variables) (λ e. record { first = refl; all = refl })
      (λ e. absurd (omega arith))
      p

  -- what is accepted is the opening view
  opened : (u w i : ℕ) → accepted (opening n) u w i ≡ true → Opened n (everyone n) u w i
  opened = opened_facts n (everyone n)

  -- its least process is 1
  first_leads : (u w i : ℕ) → accepted (opening n) u w i ≡ true → (least_of w).0 ≡ 1
  first_leads u w i e = grind (arith, opened, everyone_least)

  fresh_standing : Standing (gone (fresh_system n)) (fresh_system n) (opening n)
  unfolding fresh_system fresh_variables
  fresh_standing = grind (arith, first_leads, opened, fresh, fresh_untouched, everyone-has)

  fresh_pursuit : Pursuit (gone (fresh_system n)) (fresh_system n)
  fresh_pursuit = grind (arith, fresh_proposal)

  pub fresh_orderly : Orderly (gone (fresh_system n)) (fresh_system n) (opening n)
  fresh_orderly = record { reached = fresh_opened n size; proposals = fresh_proposals n; pursuit = fresh_pursuit; standing = fresh_standing }
