use Rattle.std.proofs.Common.{◌≡◌, ◌+◌, ◌<◌, ◌≤◌, [], ◌∷◌, length, Ok, Err, sym, refl, ap, ◌∙◌, zero-le, arith}
use Rattle.wire.specs.Encoding.{told, laid, laid_at}
use Rattle.wire.proofs.Writing.{roomy, no_room, fits_never, laid_fits, put_on, put_start}
use Rattle.inet.specs.Layout.{octets, family, inet_layout}
use Rattle.inet.proofs.Laws.{reads_back, distinct}
use Rattle.inet.proofs.write.inet_to_sql.Goals as goal

pub returns-then-part-count : goal.returns-then-part-count
returns-then-part-count c =
    let a = c.args.addr in
    let part = c.args.part.now in
    let whole = c.octet_count-count.ensures.whole in
    let short : length part < length (inet_layout a c.args.netmask) = omega (arith, c.octet_count-count.ensures.count) in
    let is = no_room (length part) (inet_layout a c.args.netmask) refl short in
    record {
      answer = ap Err c.new.ensures ∙ sym (ap told is);
      after = sym (ap (λ e. laid e part) is);
      reads_back = reads_back a c.args.netmask whole;
      distinct = distinct a c.args.netmask whole;
    }

pub returns-in_err-put_bytes : goal.returns-in_err-put_bytes
returns-in_err-put_bytes c =
    let head = c.family.result ∷ c.args.netmask ∷ 0 ∷ c.octet_count-count.result ∷ [] in
    absurd (fits_never 0 head c.args.part.now (omega arith) _ c.in_err-put_bytes.ensures.answer)

pub returns : goal.returns
returns c =
    let a = c.args.addr in
    let mask = c.args.netmask in
    let part = c.args.part.now in
    let whole = c.octet_count-count.ensures.whole in
    let count = c.octet_count-count.ensures.count in
    let head = family a ∷ mask ∷ 0 ∷ length (octets a) ∷ [] in
    let fits : 4 + length (octets a) ≤ length part = omega (arith, count) in
    let first = c.put_bytes.ensures.after ∙ ap (λ f. laid_at 0 (f ∷ mask ∷ 0 ∷ c.octet_count-count.result ∷ []) part) c.family.ensures ∙ ap (λ n. laid_at 0 (family a ∷ mask ∷ 0 ∷ n ∷ []) part) count ∙ laid_fits 0 head part (omega arith) in
    let all = put_on 0 4 head (octets a) part zero-le refl first c.put_octets.ensures.after ∙ put_start (inet_layout a mask) part in
    let long : 4 + length (octets a) ≡ length (inet_layout a mask) = omega arith in
    let is = roomy (length part) (inet_layout a mask) refl (omega (arith, fits)) in
    record {
      answer = c.put_octets.ensures.answer ∙ ap Ok long ∙ sym (ap told is);
      after = all ∙ sym (ap (λ e. laid e part) is);
      reads_back = reads_back a mask whole;
      distinct = distinct a mask whole;
    }
