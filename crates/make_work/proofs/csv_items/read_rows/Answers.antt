use Rattle.std.proofs.Common.{Bor, List, [], ◌++◌, ℕ, ◌∙◌, sym, subst, inl, inr, Some}
use Rattle.csv.proofs.ReadFacts.{rows-end, rows-more}
use Rattle.csv.specs.Reading.{default_config, strip_bom}
use Rattle.csv.specs.Records.{fields_of}
use Rattle.csv.specs.declared.parser.State.TheVariants.{StartRecord}
use Rattle.make_work.specs.CsvItems.{RefusesRows}
use Rattle.make_work.proofs.Rows.{adds, adds_after, all, explained, no_rows, refuses}
use Rattle.make_work.proofs.Takings.{takes_both, takes_none}
use Rattle.make_work.proofs.csv_items.read_rows.Goals as goal

pub loop-count-init : goal.loop-count-init
loop-count-init c =
    let fr = c.from_reader-reader.ensures in
    let flexible = c.flexible.ensures in
    let headers = c.has_headers.ensures in (
      (rw (flexible, headers) at fr.trim) ∙ c.new.ensures.trim,
      inr (inr (rw (flexible, headers) at fr.has_headers, fr.headers)),
      (rw (flexible, headers) at fr.config) ∙ c.new.ensures.config,
      strip_bom c.args.text.now,
      fr.source,
      [],
      takes_none c.args.gathering.now,
      rw (fr.state, c.plain_columns-columns.ensures) (no_rows c.args.text.now),
    )

pub returns-in-Err-take_row-clause-refused : goal.returns-in-Err-take_row-clause-refused
returns-in-Err-take_row-clause-refused c =
    let inv = c.loop-count.invariant in
    let row = fields_of c.read_record.new.row in
    let read = rw c.in-Ok-true.field-0-test at (c.in-Ok-true.ensures.reads inv.0 inv.1) in
    let more = rows-more (λ (s : Bor (List ℕ)). Some s.now) c.loop-count.reader
    c.read_record.new.self row default_config StartRecord (strip_bom c.args.text.now) inv.3
    inv.7.rows inv.2 inv.4 inv.7.reached read in
    refuses c.args.text.now c.loop-count.count c.loop-count.columns inv.5
    c.loop-count.reader.state inv.3 inv.7 row c.in-Err-take_row.refusal.reason
    c.columns_from-columns.result c.read_record.new.self.state more.0 more.2
    (c.in-Ok-true.ensures.text inv.0) c.columns_from-columns.ensures c.in-Err-take_row.ensures

pub returns-in-Ok-false-clause-items : goal.returns-in-Ok-false-clause-items
returns-in-Ok-false-clause-items c =
    let inv = c.loop-count.invariant in
    let read = rw c.in-Ok-false.field-0-test at (c.in-Ok-false.ensures.reads inv.0 inv.1) in
    let are = all c.args.text.now c.loop-count.count c.loop-count.columns inv.5
    c.loop-count.reader.state inv.3 inv.7 (rows-end (λ (s : Bor (List ℕ)). Some s.now)
    c.loop-count.reader
    c.read_record.new.self (fields_of c.read_record.new.row) default_config inv.3 inv.2 inv.4
    read) in
    record { items = inv.5; are = are; taken = inv.6 }

pub returns-in-Err-clause-refused : goal.returns-in-Err-clause-refused
returns-in-Err-clause-refused c =
    let inv = c.loop-count.invariant in
    subst (RefusesRows c.args.text.now) (sym c.refusal.ensures)
    (explained (λ (s : Bor (List ℕ)). Some s.now) c.loop-count.reader c.read_record.new.self
    c.in-Err.error.kind c.args.text.now c.loop-count.count c.loop-count.columns
    inv.5 inv.3 inv.2
    inv.4 inv.7 (c.in-Err.ensures.why inv.0 inv.1))

pub loop-count-preserved : goal.loop-count-preserved
loop-count-preserved c =
    let inv = c.loop-count.invariant in
    let row = fields_of c.read_record.new.row in
    let read = rw c.in-Ok-true.field-0-test at (c.in-Ok-true.ensures.reads inv.0 inv.1) in
    let more = rows-more (λ (s : Bor (List ℕ)). Some s.now) c.loop-count.reader
    c.read_record.new.self row default_config StartRecord (strip_bom c.args.text.now) inv.3
    inv.7.rows inv.2 inv.4 inv.7.reached read in (
      read.3 ∙ inv.0,
      inl (c.in-Ok-true.ensures.ready inv.0),
      read.2 ∙ inv.2,
      more.0,
      more.1,
      inv.5 ++ c.in-Ok.ensures.items,
      takes_both inv.5 c.in-Ok.ensures.items _ _ _ inv.6 c.in-Ok.ensures.taken,
      adds c.args.text.now c.loop-count.count c.loop-count.columns inv.5
          c.loop-count.reader.state inv.3 inv.7 row (inv.5 ++ c.in-Ok.ensures.items)
          c.columns_from-columns.result
          c.read_record.new.self.state more.0 more.2 (c.in-Ok-true.ensures.text inv.0)
          c.columns_from-columns.ensures
          (adds_after _ c.columns_from-columns.result row inv.5 c.in-Ok.ensures.items
          c.in-Ok.ensures.are),
    )
