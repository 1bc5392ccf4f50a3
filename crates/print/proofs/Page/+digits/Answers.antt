-- `print::Page::digits`: the digits before the last, where there are any, and then the last.
use native.Mathlib.Omega.{arith}
use Rattle.print.proofs.Typing.{no_digits_on, last_digit_on, only_digit_on}
use Rattle.print.proofs.Page.+digits.Goals as goal
use Rattle.print.proofs.Page.+digits.Goals.{then-k-ge10, else-k-ge10}

pub returns-after-k-ge10 : goal.returns-after-k-ge10
returns-after-k-ge10 t c = elim c.if-k-ge10.branch [
  | then-k-ge10 w ↦ last_digit_on _ _ _ _ _ (omega arith) (omega arith) (rw w.self-is w.digits.ensures) c.digit.ensures
  | else-k-ge10 w ↦ only_digit_on _ _ _ _ (omega arith) (omega arith) (rw (← w.self-is) c.digit.ensures)
]

pub returns-else-n-ne0 : goal.returns-else-n-ne0
returns-else-n-ne0 t c = no_digits_on _ _ _ (omega arith)
