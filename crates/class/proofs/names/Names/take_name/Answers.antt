-- `class::names::Names::take_name`: what a chunk gives goes onto the page, up to a line feed.
use Rattle.std.proofs.Common.{rules}
use Rattle.print.proofs.Typing.{typed_from, typed_within, same_length}
use Rattle.class.proofs.Taking.{ends, goes_on, stops, told, untold}
use Rattle.class.proofs.names.Names.take_name.Goals as goal

pub returns-then-not-branch-clause-name : goal.returns-then-not-branch-clause-name
returns-then-not-branch-clause-name g c =
    ends _ _ _ _ _ _ (search rules) c.loop.invariant.taking c.in_ok-fill.ensures.kept (c.in_ok-fill.ensures.none (search rules))

pub returns-then-is_some-clause-within : goal.returns-then-is_some-clause-within
returns-then-is_some-clause-within g c =
    let kept = typed_within _ _ _ (rw c.new-page.ensures c.loop.invariant.within) c.gather-next.ensures.name in
    let long = same_length _ _ _ c.gather-next.ensures.name in
    rw (c.place-len.ensures, long) kept

pub returns-then-is_some-clause-name : goal.returns-then-is_some-clause-name
returns-then-is_some-clause-name g c =
    let here = c.in_ok-fill.ensures.some (search rules) in
    let met = told _ _ _ _ _ here c.in_ok-fill.ensures.within c.gather-next.ensures.place c.unwrap_or-self.ensures (search rules) in
    let typed = typed_from _ _ _ _ _ _ c.new-page.ensures c.gather-next.ensures.name c.place-len.ensures in
    stops _ _ _ _ _ _ _ _ _ _ (search rules) c.loop.invariant.taking c.in_ok-fill.ensures.kept met.feed typed met.left

pub loop-preserved : goal.loop-preserved
loop-preserved g c =
    let unmet = untold _ _ _ _ _ c.gather-next.ensures.place c.unwrap_or-self.ensures (search rules) in
    let typed = typed_from _ _ _ _ _ _ c.new-page.ensures c.gather-next.ensures.name c.place-len.ensures in
    let kept = typed_within _ _ _ (rw c.new-page.ensures c.loop.invariant.within) c.gather-next.ensures.name in
    let long = same_length _ _ _ c.gather-next.ensures.name in
    record {
      within = rw (c.place-len.ensures, long) kept;
      long = rw (long, c.new-page.ensures) c.loop.invariant.long;
      taking = goes_on _ _ _ _ _ _ _ _ _ _ c.loop.invariant.taking c.in_ok-fill.ensures.kept unmet.feed typed unmet.left;
      left = (search rules);
    }
