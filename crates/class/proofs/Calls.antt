-- What is printed name after name, with the tally so far handed on, is what is printed for the class.
use mathlib.Core.Path.{◌≡◌, sym, ◌∙◌}
use mathlib.Core.List.{List, [], ◌∷◌, ◌++◌, append_assoc}
use Rattle.tallies.specs.declared.Tally.{Tally}
use Rattle.tallies.specs.Tally.{no_tally, plus, capped}
use Rattle.tallies.proofs.Laws.{plus_none, none_plus, plus-plus, kept_on_the_way, kept_twice, none_kept}
use Rattle.class.specs.Class.{Named, name_line, finding_of, adds_of, all_line, each_line, in_all, class_output, lined_as, lined, lined_then, class_from}

-- ---- name after name
from_here : (total : Tally) (xs : List Named) → capped total ≡ total → class_from total xs ≡ each_line xs ++ all_line (capped (plus total (in_all xs)))
unfolding class_from lined_then lined lined_as each_line in_all
from_here total [] e = rw (plus_none total, e)
from_here total (x ∷ xs) e =
    rw (from_here (capped (plus total (adds_of (finding_of x)))) xs (kept_twice (plus total (adds_of (finding_of x)))), kept_on_the_way (plus total (adds_of (finding_of x))) (in_all xs), plus-plus total (adds_of (finding_of x)) (in_all xs))
    (sym (append_assoc (name_line x.name (finding_of x)) (each_line xs) (all_line (capped (plus total (plus (adds_of (finding_of x)) (in_all xs)))))))

pub calls_print_the_class : (xs : List Named) → class_from no_tally xs ≡ class_output xs
unfolding class_output
calls_print_the_class xs = from_here no_tally xs none_kept ∙ rw (none_plus (in_all xs))
