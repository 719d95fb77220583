use Rattle.std.proofs.Common.{◌≡◌, ◌^◌, ◌<◌, ◌≤◌, cond, length, pos, Ok, Err, sym, ap, ◌∙◌, arith, w32, SFits, to_z, of_z, rules}
use Rattle.std.proofs.lemmas.Result.{err_from_is_err_and}
use Rattle.std.proofs.lemmas.Int.{to_z-of_z}
use Rattle.wire.specs.Encoding.{told, laid, room_for, laid_at}
use Rattle.wire.specs.Words.{int}
use Rattle.wire.proofs.Writing.{roomy, no_room}
use Rattle.serializer.specs.Lists.{values}
use Rattle.array.specs.Layout.{array_layout}
use Rattle.wire.proofs.Counts.{count_fits}
use Rattle.array.proofs.Extents.{extent_told, extent_refused}
use Rattle.array.proofs.Whole.{encoding_is, length_layout, laid_out, flag_is}
use Rattle.array.proofs.write.encode.Goals as goal

pub returns-in_err-extent : goal.returns-in_err-extent
returns-in_err-extent g c =
    let is = g.S.Serializer.items c.args.serializer.now in
    let part = c.args.part.now in
    let p = err_from_is_err_and c.from_residual.result c.from_residual.ensures.1 in
    let e = extent_refused is c.in_err-extent.field-0.0 _ c.in_err-extent.ensures in
    record {
      answer = p.1 ∙ ap Err p.2 ∙ sym (ap (λ x. told (room_for (length part) x)) e);
      after = sym (ap (λ x. laid (room_for (length part) x) part) e);
    }

pub returns-then-part-extent : goal.returns-then-part-extent
returns-then-part-extent g c =
    let is = g.S.Serializer.items c.args.serializer.now in
    let ds = c.args.dims.now in
    let part = c.args.part.now in
    let x = extent_told is c.in_ok-extent.extent c.in_ok-extent.ensures in
    let few = (count_fits (length ds) 0 _ c.in_ok-count.ensures).0 in
    let long = length_layout ds c.args.oid (values is) in
    let wide = ap (λ y. y.bytes) x.1 in
    let less : length part < length (array_layout ds c.args.oid (values is)) = elim c.then-part-extent.branch [ goal.then-part-extent-via-then-part-extent w ↦ omega arith | goal.then-part-extent-via-else-part-extent+then-part-extent-2 w ↦ omega arith ] in
    let e = no_room (length part) (array_layout ds c.args.oid (values is)) (encoding_is ds c.args.oid is x.0 few) less in
    record { answer = ap Err c.new.ensures ∙ sym (ap told e); after = sym (ap (λ y. laid y part) e) }

pub returns : goal.returns
returns g c =
    let is = g.S.Serializer.items c.args.serializer.now in
    let ds = c.args.dims.now in
    let part = c.args.part.now in
    let x = extent_told is c.in_ok-extent.extent c.in_ok-extent.ensures in
    let count = count_fits (length ds) 0 _ c.in_ok-count.ensures in
    let few = count.0 in
    let long = length_layout ds c.args.oid (values is) in
    let wide = ap (λ y. y.bytes) x.1 in
    let nulls = c.from.ensures ∙ flag_is _ ∙ ap (λ y. cond y.nulls 1 0) x.1 in
    let fits : SFits w32 c.in_ok-count.count = search rules in
    let same : to_z w32 (of_z w32 c.in_ok-count.count) ≡ pos (length ds) = to_z-of_z w32 c.in_ok-count.count fits ∙ count.1 in
    let first = c.put.ensures.after ∙ ap (λ z. laid_at 0 (int z) part) same in
    let room : 12 ≤ length part = omega arith in
    let bytes = laid_out ds c.args.oid c.from.result (values is) part room nulls first c.put-2.ensures.after c.put-3.ensures.after c.put_dimensions.ensures.after c.write_elements.ensures.after in
    let bound : length part < 2 ^ 64 = search rules in
    let e = roomy (length part) (array_layout ds c.args.oid (values is)) (encoding_is ds c.args.oid is x.0 few) (omega arith) in
    record { answer = c.write_elements.ensures.answer ∙ ap Ok (sym long) ∙ sym (ap told e); after = bytes ∙ sym (ap (λ y. laid y part) e) }
