use Rattle.std.proofs.Common.{◌∙◌, ◌+◌, ◌++◌, ℕ, List, [], ◌∷◌, Some, Bor, refl, sym, ap, inl, inr, arith}
use Rattle.std.proofs.lemmas.Bool.{lt-ltb}
use Rattle.csv.specs.Reading.{Reached, default_config, strip_bom, records}
use Rattle.csv.specs.Records.{fields_of}
use Rattle.csv.specs.declared.parser.State.TheVariants as st
use Rattle.csv.proofs.ReadFacts.{rows-end, rows-more}
use Rattle.omega_model.proofs.Records.{begins, are_all}
use Rattle.omega_model.proofs.FirstRefusal.{bad_row_at}
use Rattle.omega_model.specs.Rows.{rows_by}
use Rattle.omega_tables.specs.Taking.{count_of}
use Rattle.omega_tables.proofs.Taking.{so_far_more, so_far_held, so_far_count}
use Rattle.omega_tables.proofs.parsing.read_rows.Goals as goal

pub loop-number-init : goal.loop-number-init
unfolding Reached
loop-number-init g c =
    let fr = c.from_reader-reader.ensures in
    let h = c.has_headers.ensures in
    let f = c.flexible.ensures in
    rw (c.new-rows.ensures.items) (
      rw (f, h) at fr.trim ∙ c.new.ensures.trim,
      inr (inr (rw (f, h) at fr.has_headers, fr.headers)),
      rw (f, h) at fr.config ∙ c.new.ensures.config,
      [],
      ([], refl, refl, λ few. refl),
      strip_bom c.args.text.now,
      fr.source,
      (sym fr.state, refl),
    )

pub loop-number-preserved : goal.loop-number-preserved
loop-number-preserved g c =
    let inv = c.loop-number.invariant in
    let fields = fields_of c.read_byte_record.new.row in
    let r = c.in-Ok-true.ensures.reads inv.0 inv.1 in
    let m = rows-more (λ (s : Bor (List ℕ)). Some s.now) c.loop-number.reader c.read_byte_record.new.self fields default_config st.StartRecord (strip_bom c.args.text.now) inv.5 inv.3 inv.2 inv.6 inv.7 (rw c.in-Ok-true.field-0-test at r) in
    let row = sym c.in_ok-row-in-Ok-true.ensures ∙ c.in-Ok.is in
    let more = so_far_more g.R.FromRecord.row_of c.args.most inv.3 c.loop-number.rows.items c.hold.new.rows.items c.loop-number.number fields c.in-Ok.row inv.4 row (λ below. c.in_ok-hold-in-Ok.ensures (lt-ltb c.loop-number.number c.args.most below)) in
    (r.3 ∙ inv.0, inl (c.in-Ok-true.ensures.ready inv.0), r.2 ∙ inv.2, inv.3 ++ fields ∷ [], more, m.0, m.1, m.2)

pub returns-in-Err-2-clause-refusal : goal.returns-in-Err-2-clause-refusal
returns-in-Err-2-clause-refusal g c =
    let inv = c.loop-number.invariant in
    let text = strip_bom c.args.text.now in
    let fields = fields_of c.read_byte_record.new.row in
    let r = c.in-Ok-true.ensures.reads inv.0 inv.1 in
    let m = rows-more (λ (s : Bor (List ℕ)). Some s.now) c.loop-number.reader c.read_byte_record.new.self fields default_config st.StartRecord text inv.5 inv.3 inv.2 inv.6 inv.7 (rw c.in-Ok-true.field-0-test at r) in
    let whole = begins default_config text (inv.3 ++ fields ∷ []) c.read_byte_record.new.self.state m.0 m.2 in
    let bad = sym c.in_ok-row-in-Ok-true.ensures ∙ c.in-Err-2.is in
    bad_row_at g.R.FromRecord.row_of c.args.table (records default_config text) inv.3 inv.4.0 fields whole.0 c.loop-number.number c.in-Err-2.column c.in-Err-2.cause whole.1 inv.4.1 bad inv.4.2

pub returns-in-Ok-false-clause-rows : goal.returns-in-Ok-false-clause-rows
returns-in-Ok-false-clause-rows g c =
    let inv = c.loop-number.invariant in
    let text = strip_bom c.args.text.now in
    let r = c.in-Ok-false.ensures.reads inv.0 inv.1 in
    let last = rows-end (λ (s : Bor (List ℕ)). Some s.now) c.loop-number.reader c.read_byte_record.new.self (fields_of c.read_byte_record.new.row) default_config inv.5 inv.2 inv.6 (rw c.in-Ok-false.field-0-test at r) in
    let all = ap (rows_by g.R.FromRecord.row_of) (are_all default_config text inv.3 c.loop-number.reader.state inv.5 inv.7 last) in
    c.held.ensures _ (λ few. all ∙ so_far_held g.R.FromRecord.row_of c.args.most inv.3 c.loop-number.rows.items c.loop-number.number inv.4 few)
    (ap count_of all ∙ so_far_count g.R.FromRecord.row_of c.args.most inv.3 c.loop-number.rows.items c.loop-number.number inv.4)
