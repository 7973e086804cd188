use Rattle.std.proofs.Common.{[], ◌∷◌, ◌++◌, map, ap, ◌∙◌}
use Rattle.omega_report.specs.Pages.{PageState}
use Rattle.omega_report.specs.Spelling.{word_of}
use Rattle.omega_report.proofs.Growing.{page_grows}
use Rattle.omega_report.proofs.ShortWords.{all_short}
use Rattle.omega_report.proofs.page.Page.append.Goals as goal

pub invariant_of-self-2 : goal.invariant_of-self-2
invariant_of-self-2 c =
    let short = all_short c.args.words.now c.in_ok-write_item.ensures.numbers c.requires.no_time in
    rw (c.in_ok-extend_from_slice.ensures.items, c.as_slice-2.ensures.value, c.in_ok-write_item.ensures.bytes, c.is_empty-is_first.ensures, c.as_slice.ensures.value)
    (page_grows c.self.inside.format c.self.inside.bytes.items (map word_of c.args.words.now) c.self.invariant c.requires.plain short).page

pub returns-clause-ok : goal.returns-clause-ok
returns-clause-ok c =
    let short = all_short c.args.words.now c.in_ok-write_item.ensures.numbers c.requires.no_time in
    rw (c.in_ok-extend_from_slice.ensures.items, c.as_slice-2.ensures.value, c.in_ok-write_item.ensures.bytes, c.is_empty-is_first.ensures, c.as_slice.ensures.value)
    ((page_grows c.self.inside.format c.self.inside.bytes.items (map word_of c.args.words.now) c.self.invariant c.requires.plain short).lines
    ∙ ap (λ (p : PageState). p.lines ++ map word_of c.args.words.now ∷ []) c.self.view_is)
