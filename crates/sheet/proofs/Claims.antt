-- The worked examples come out as they are to, by computation.
use mathlib.Core.Path.{◌≡◌, refl}
use mathlib.Core.List.{map, flat_map}
use Rattle.view.specs.Logic.{pick}
use Rattle.view.specs.View.{with}
use Rattle.print.specs.Text.{bytes}
use Rattle.sheet.specs.Lines.{in_first, with_byte, lines_of}
use Rattle.sheet.specs.Grammar.{piece, passed, ended, followed, readings, some, begins, greatest, column, first_reading, read}
use Rattle.sheet.specs.Parse.{opened, parsed}
use Rattle.sheet.specs.Examples.{split_sheets, split_of, expected_lines, first_sayings, said_first, sayings, said, expected_saying}

pub split_as_expected : map split_of split_sheets ≡ map expected_lines split_sheets
unfolding pick bytes in_first with_byte lines_of split_of expected_lines
split_as_expected = refl

pub said_first_as_expected : map said_first first_sayings ≡ map expected_saying first_sayings
unfolding pick with bytes flat_map piece passed ended followed readings some begins greatest column first_reading read opened said_first
said_first_as_expected = refl

pub said_as_expected : map said sayings ≡ map expected_saying sayings
unfolding pick with bytes flat_map piece passed ended followed readings some begins greatest column first_reading read parsed said
said_as_expected = refl
