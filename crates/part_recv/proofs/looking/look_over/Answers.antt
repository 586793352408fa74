use Rattle.std.proofs.Common.{◌≡◌, ℕ, ◌<◌, ◌%◌, ◌∙◌, true≢false, sym, ap, subst, arith}
use Rattle.part_geometry.specs.Shape.{Shape}
use Rattle.part_geometry.specs.Pieces.{pieces}
use Rattle.pair_core.specs.Reading.{IsFull}
use Rattle.pair_rule.specs.declared.view.View.{View}
use Rattle.part_recv.specs.Seeing.{first_piece, after_piece}
use Rattle.part_recv.proofs.Walking.{looked_geometry, walk_begins, walk_goes, walk_stops, walk_ends}
use Rattle.part_recv.proofs.looking.look_over.Goals as goal

pub load_piece-shown-requires-clause-pair : goal.load_piece-shown-requires-clause-pair
load_piece-shown-requires-clause-pair g c =
    let h = c.loop-piece.invariant in
    (h.table ∙ c.requires.pair.0, ap (λ (z : View). z.geometry) h.view ∙ (looked_geometry c.place-place.result c.pieces_over-first.result.0 h.words (g.S.Seated.view_of c.args.seat.now) ∙ c.requires.pair.1))

pub load_piece-shown-requires-clause-place : goal.load_piece-shown-requires-clause-place
load_piece-shown-requires-clause-place g c =
    let h = c.loop-piece.invariant in
    let same : (g.S.Seated.view_of c.loop-piece.seat).geometry ≡ c.args.pair.now.key.geometry =
    ap (λ (z : View). z.geometry) h.view ∙ (looked_geometry c.place-place.result c.pieces_over-first.result.0 h.words (g.S.Seated.view_of c.args.seat.now) ∙ c.requires.pair.1) in
    subst (λ (z : Shape). c.place-place.result < z.depth) (c.tables-tables.ensures ∙ sym same) c.place-place.ensures.limits

pub load_piece-shown-requires-clause-piece : goal.load_piece-shown-requires-clause-piece
load_piece-shown-requires-clause-piece g c =
    let h = c.loop-piece.invariant in
    let same : (g.S.Seated.view_of c.loop-piece.seat).geometry ≡ c.args.pair.now.key.geometry =
    ap (λ (z : View). z.geometry) h.view ∙ (looked_geometry c.place-place.result c.pieces_over-first.result.0 h.words (g.S.Seated.view_of c.args.seat.now) ∙ c.requires.pair.1) in
    let few : c.loop-piece.piece < pieces c.tables-tables.result.now = let a = c.pieces_over-first.ensures.inside.1 in omega arith in
    subst (λ (z : Shape). c.loop-piece.piece < pieces z) (c.tables-tables.ensures ∙ sym same) few

pub loop-piece-init : goal.loop-piece-init
loop-piece-init g c = let laws = g.met.S.Seated in walk_begins g.S.Seated.with_view g.S.Seated.view_of g.S.Seated.table_of laws.has_view laws.has_table laws.has_last c.args.round c.place-place.result c.pieces_over-first.result.0 c.args.seat.now

pub loop-piece-preserved : goal.loop-piece-preserved
loop-piece-preserved g c =
    let laws = g.met.S.Seated in
    let full : IsFull (g.S.Seated.view_of c.args.seat.now).geometry c.load_piece-shown.result c.args.round c.loop-piece.piece =
    subst (λ (z : Shape). IsFull z c.load_piece-shown.result c.args.round c.loop-piece.piece) (c.tables-tables.ensures ∙ sym c.requires.pair.1) (c.is_full.ensures.0 c.if-not-is_full.false) in
    walk_goes g.S.Seated.with_view g.S.Seated.view_of g.S.Seated.table_of laws.has_view laws.has_table laws.has_last c.args.round c.place-place.result c.pieces_over-first.result.0
    c.loop-piece.piece c.load_piece-shown.result c.args.seat.now c.loop-piece.seat c.load_piece-shown.new.seat c.loop-piece.invariant c.load_piece-shown.ensures.step c.load_piece-shown.ensures.told.later full

pub returns-then-not-is_full-clause-found : goal.returns-then-not-is_full-clause-found
returns-then-not-is_full-clause-found g c =
    let laws = g.met.S.Seated in
    let from : View = g.S.Seated.view_of c.args.seat.now in
    let same : c.tables-tables.result.now ≡ from.geometry = c.tables-tables.ensures ∙ sym c.requires.pair.1 in
    walk_stops g.S.Seated.with_view g.S.Seated.view_of g.S.Seated.table_of laws.has_view laws.has_table laws.has_last c.args.round c.place-place.result c.pieces_over-first.result.0
    c.loop-piece.piece c.load_piece-shown.result c.args.seat.now c.loop-piece.seat c.load_piece-shown.new.seat c.loop-piece.invariant c.load_piece-shown.ensures.step c.load_piece-shown.ensures.told.later
    c.args.q (c.place-place.ensures.value ∙ ap (λ (z : Shape). c.args.round % z.depth) same)
    (ap (λ (z : ℕ × ℕ). z.0) c.pieces_over-first.ensures.value ∙ ap (λ (z : Shape). first_piece z c.args.q) same)
    (let after : c.pieces_over-first.result.1 ≡ after_piece from.geometry c.args.q = ap (λ (z : ℕ × ℕ). z.1) c.pieces_over-first.ensures.value ∙ ap (λ (z : Shape). after_piece z c.args.q) same in omega arith)
    (λ full. true≢false (sym (c.is_full.ensures.1 (subst (λ (z : Shape). IsFull z c.load_piece-shown.result c.args.round c.loop-piece.piece) (sym same) full)) ∙ c.if-not-is_full.true))
    c.load_piece-shown.ensures.told.full

pub returns-clause-found : goal.returns-clause-found
returns-clause-found g c =
    let laws = g.met.S.Seated in
    let from : View = g.S.Seated.view_of c.args.seat.now in
    let same : c.tables-tables.result.now ≡ from.geometry = c.tables-tables.ensures ∙ sym c.requires.pair.1 in
    walk_ends g.S.Seated.with_view g.S.Seated.view_of g.S.Seated.table_of laws.has_view laws.has_table laws.has_last c.args.round c.place-place.result c.pieces_over-first.result.0
    c.loop-piece.piece c.args.q c.args.seat.now c.loop-piece.seat c.loop-piece.invariant
    (let some = c.pieces_over-first.ensures.inside.0 in let over = c.loop-piece-test.false in omega arith)
    (let after : c.pieces_over-first.result.1 ≡ after_piece from.geometry c.args.q = ap (λ (z : ℕ × ℕ). z.1) c.pieces_over-first.ensures.value ∙ ap (λ (z : Shape). after_piece z c.args.q) same in let some = c.pieces_over-first.ensures.inside.0 in let over = c.loop-piece-test.false in let end = c.loop-piece.auto.piece-end in omega arith)
    (c.place-place.ensures.value ∙ ap (λ (z : Shape). c.args.round % z.depth) same)
    (ap (λ (z : ℕ × ℕ). z.0) c.pieces_over-first.ensures.value ∙ ap (λ (z : Shape). first_piece z c.args.q) same)

pub returns-then-not-is_full-clause-pair : goal.returns-then-not-is_full-clause-pair
returns-then-not-is_full-clause-pair g c =
    let laws = g.met.S.Seated in let h = c.loop-piece.invariant in let step = c.load_piece-shown.ensures.step in (
      ap g.S.Seated.table_of step ∙ (laws.has_table _ _ ∙ (h.table ∙ c.requires.pair.0)),
      ap (λ (z : View). z.geometry) (ap g.S.Seated.view_of step ∙ laws.has_view _ _)
          ∙ (ap (λ (z : View). z.geometry) h.view ∙ (looked_geometry c.place-place.result c.pieces_over-first.result.0 h.words (g.S.Seated.view_of c.args.seat.now) ∙ c.requires.pair.1)),
    )

pub returns-clause-pair : goal.returns-clause-pair
returns-clause-pair g c =
    let h = c.loop-piece.invariant in
    (h.table ∙ c.requires.pair.0, ap (λ (z : View). z.geometry) h.view ∙ (looked_geometry c.place-place.result c.pieces_over-first.result.0 h.words (g.S.Seated.view_of c.args.seat.now) ∙ c.requires.pair.1))
