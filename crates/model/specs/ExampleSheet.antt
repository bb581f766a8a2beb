-- MODEL 18.14: the output for the example sheet, computed from the definitions. Assumes nothing.
use Rattle.std.specs.Prelude.{◌≡◌, refl}
use Rattle.runs.specs.Runs.{runs, push}
use Rattle.runs.specs.Intervals.{intervals as maximal_runs}
use Rattle.model.specs.Bounded.{all_below, any_below, sum_below, join_below, all_in, any_in, sum_in, join_in}
use Rattle.model.specs.Columns.{height, cells_in, top_in, columns, kind, cells, top, device_ok}
use Rattle.model.specs.Tasks.{word, lifted, blocks, block, sized, block_ok, follows, well_formed, step}
use Rattle.model.specs.Book.{placed, covers, covered, held, free, block_fits, fits, fits_at, intervals}
use Rattle.model.specs.Listing.{ranges}
use Rattle.model.specs.Choice.{lies, holds_block, span, stretch, left_in, remaining, pieces, judge, better, see, climb, choice, chosen}
use Rattle.model.specs.Record.{bytes16}
use Rattle.model.specs.Sound.{number_ok}
use Rattle.model.specs.Calls.{lent, refused, no_position, runs_in, refusals, insert, without, natural, range_bytes, over, position_number, done, unless, on_book}
use Rattle.model.specs.Sheet.{text, fields, is, digit, decimal, natural as natural_of, number, natural_field, height_field, kind_letter, kind_field, call_of, six, sheet_line, kind_letters, kinds_field, device_line, digits, shown, output_line}
use Rattle.model.specs.Program.{block_bytes, on_call, on_line, on_lines, same_line, third, second, first, lines, program}

-- THEOREM: the example's input gives the example's output, byte for byte (MODEL 18.14)
pub example_sheet : program (text "rows kinds\n5 CCB\ncall task column kind bottom top\nB 0 0 C 0 2\nB 0 1 C -2 2\nB 0 2 B 1 6\nL 0 0 - 0 0\nP 7 0 - 4 0\nL 0 0 - 0 0\nN 0 0 - 0 0\nB 0 0 C 0 4\nL 0 0 - 0 0\nC 0 0 - 0 0\nR 8 0 - 0 0\nR 7 0 - 0 0\n")
    ≡ text "line answer column first step last\n7 1 0 4 10 4\n8 0 0 0 0 0\n9 -9 0 0 0 0\n12 3 0 0 2 0\n12 3 0 6 2 6\n12 3 1 6 2 6\n13 0 0 0 0 0\n14 -11 0 0 0 0\n15 0 0 0 0 0\n"
unfolding all_below any_below sum_below join_below all_in any_in sum_in join_in runs push maximal_runs
    height cells_in top_in columns kind cells top device_ok word lifted blocks block sized block_ok follows well_formed step
    placed covers covered held free block_fits fits fits_at intervals ranges
    lies holds_block span stretch left_in remaining pieces judge better see climb choice chosen
    bytes16 number_ok lent refused no_position runs_in refusals insert without natural range_bytes over position_number done unless on_book
    fields is digit decimal natural_of number natural_field height_field kind_letter kind_field call_of six sheet_line kind_letters kinds_field device_line
    digits shown output_line block_bytes on_call on_line on_lines same_line third second first lines program
example_sheet = refl
