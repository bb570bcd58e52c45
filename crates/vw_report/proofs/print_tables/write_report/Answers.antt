use Rattle.std.proofs.Common.{List, ℕ, [], ◌++◌, ◌≡◌, append_assoc}
use Rattle.std.specs.List.{flat_map}
use Rattle.vw_report.specs.Lines.{ListedFunction, first_line, function_lines, last_line, report_text}
use Rattle.vw_report.specs.ReportText.{AppendsFunctions}
use Rattle.vw_report.proofs.print_tables.write_report.Goals as goal

joined : (empty one two new : List ℕ) (functions : List ListedFunction) → empty ≡ [] → one ≡ empty ++ first_line → two ≡ one ++ flat_map function_lines functions → new ≡ two ++ last_line → new ≡ report_text functions
unfolding report_text
joined empty one two new functions p q r s = rw (s, r, q, p) (append_assoc first_line (flat_map function_lines functions) last_line)

pub returns : goal.returns
returns c =
    let lines : AppendsFunctions c.args.tables.now.functions c.push.new.self c.push_functions.new.text = rw c.as_slice.ensures at c.in_ok-push_functions.ensures in
    record {
      functions = lines.listed;
      listed = lines.are;
      text_is = joined c.new-text.result c.push.new.self c.push_functions.new.text c.push-2.new.self lines.listed c.new-text.ensures c.in_ok-push.ensures.ok lines.text_is c.in_ok-push-2.ensures.ok;
    }
