-- `print::Page::decimal`: the first digit and then each next one, or all of them.
use native.Mathlib.Omega.{arith}
use Rattle.print.proofs.Typing.{only_digit_on, last_digit_on}
use Rattle.print.specs.Text.{decimal}
use Rattle.print.proofs.Page.decimal.Goals as goal

pub returns-then-k-lt10 : goal.returns-then-k-lt10
unfolding decimal
returns-then-k-lt10 c = only_digit_on _ _ _ _ (omega arith) (omega arith) c.digit.ensures

pub returns-then-tens-lt10 : goal.returns-then-tens-lt10
unfolding decimal
returns-then-tens-lt10 c = last_digit_on _ _ _ _ _ (omega arith) (omega arith) (only_digit_on _ _ _ _ (omega arith) (omega arith) c.digit-then-tens-lt10.ensures) c.digit-then-tens-lt10-2.ensures

pub returns-then-hundreds-lt10 : goal.returns-then-hundreds-lt10
unfolding decimal
returns-then-hundreds-lt10 c =
    last_digit_on _ _ _ 20 _ (omega arith) (omega arith)
    (last_digit_on _ _ _ 19 _ (omega arith) (omega arith)
    (only_digit_on _ _ 18 _ (omega arith) (omega arith) c.digit-then-hundreds-lt10.ensures)
    c.digit-then-hundreds-lt10-2.ensures)
    c.digit-then-hundreds-lt10-3.ensures

pub returns-then-thousands-lt10 : goal.returns-then-thousands-lt10
unfolding decimal
returns-then-thousands-lt10 c =
    last_digit_on _ _ _ 20 _ (omega arith) (omega arith)
    (last_digit_on _ _ _ 19 _ (omega arith) (omega arith)
    (last_digit_on _ _ _ 18 _ (omega arith) (omega arith)
    (only_digit_on _ _ 17 _ (omega arith) (omega arith) c.digit-then-thousands-lt10.ensures)
    c.digit-then-thousands-lt10-2.ensures)
    c.digit-then-thousands-lt10-3.ensures)
    c.digit-then-thousands-lt10-4.ensures

pub returns-then-myriads-lt10 : goal.returns-then-myriads-lt10
unfolding decimal
returns-then-myriads-lt10 c =
    last_digit_on _ _ _ 20 _ (omega arith) (omega arith)
    (last_digit_on _ _ _ 19 _ (omega arith) (omega arith)
    (last_digit_on _ _ _ 18 _ (omega arith) (omega arith)
    (last_digit_on _ _ _ 17 _ (omega arith) (omega arith)
    (only_digit_on _ _ 16 _ (omega arith) (omega arith) c.digit-then-myriads-lt10.ensures)
    c.digit-then-myriads-lt10-2.ensures)
    c.digit-then-myriads-lt10-3.ensures)
    c.digit-then-myriads-lt10-4.ensures)
    c.digit-then-myriads-lt10-5.ensures

pub returns : goal.returns
unfolding decimal
returns c = c.digits.ensures
