-- `fresh::put_fresh`: before process p has its turn, those before it are fresh in a blank system.
use Rattle.std.proofs.Common.{◌≡◌, ◌-◌, length}
use Rattle.view.specs.Logic.{each_up_to}
use Rattle.image.specs.Image.{system_in}
use Rattle.fresh.specs.Fresh.{blank_system, with_fresh}
use Rattle.fresh.proofs.put_fresh.Given as goal

abbrev pub invariant-loop-p : goal.invariant-loop-p
invariant-loop-p l =
    record {
      long : length l.image ≡ length l.initial.image;
      so_far : system_in l.image ≡ each_up_to (l.p - 1) (with_fresh l.n) (blank_system l.n);
    }
