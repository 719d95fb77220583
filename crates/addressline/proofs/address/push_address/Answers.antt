use Rattle.std.proofs.Common.{◌≡◌, ◌++◌, vec_items, codes, sym, refl, ap, ◌∙◌}
use Rattle.std.proofs.lemmas.Slice.{pushed}
use Rattle.std.proofs.lemmas.Result.{IfOk-weaker}
use Rattle.wire.proofs.Wording.{be_4, be_8}
use Rattle.inet.specs.Layout.{octets}
use Rattle.syntax.specs.Printed.{hex}
use Rattle.addressline.specs.Addresses.{version}
use Rattle.addressline.proofs.Addresses.{v4_parts, v6_parts}
use Rattle.addressline.proofs.address.push_address.Goals as goal

pub returns-in_ok-extend_from_slice-in-V4 : goal.returns-in_ok-extend_from_slice-in-V4
returns-in_ok-extend_from_slice-in-V4 c =
    let out = vec_items c.args.out.now in
    let after = vec_items c.push_hex.new.out in
    let bytes = c.to_be_bytes.result in
    let named = pushed (codes "v4:") refl c.in_ok-extend_from_slice-in-V4.was c.extend_from_slice.ensures.items in
    let all = v4_parts out c.args.addr c.in-V4.bits bytes c.in-V4.is (c.to_be_bytes.ensures ∙ sym (be_4 c.in-V4.bits)) in
    IfOk-weaker
    c.push_hex.result
    (λ _. after ≡ vec_items c.extend_from_slice.new.self ++ hex bytes)
    (λ _. after ≡ out ++ (version c.args.addr ++ hex (octets c.args.addr)))
    (λ _ e. e ∙ ap (λ l. l ++ hex bytes) named ∙ all)
    c.push_hex.ensures.added

pub returns-in_ok-push_hex-in-V6 : goal.returns-in_ok-push_hex-in-V6
returns-in_ok-push_hex-in-V6 c =
    let out = vec_items c.args.out.now in
    let after = vec_items c.push_hex-in-V6-2.new.out in
    let high = c.to_be_bytes-in-V6.result in
    let low = c.to_be_bytes-in-V6-2.result in
    let named = pushed (codes "v6:") refl c.in_ok-extend_from_slice-in-V6.was c.extend_from_slice-in-V6.ensures.items in
    let upper = c.in_ok-push_hex-in-V6.ensures.added ∙ ap (λ l. l ++ hex high) named in
    let all = v6_parts out c.args.addr c.in-V6.high c.in-V6.low high low c.in-V6.is (c.to_be_bytes-in-V6.ensures ∙ sym (be_8 c.in-V6.high)) (c.to_be_bytes-in-V6-2.ensures ∙ sym (be_8 c.in-V6.low)) in
    IfOk-weaker
    c.push_hex-in-V6-2.result
    (λ _. after ≡ vec_items c.push_hex-in-V6.new.out ++ hex low)
    (λ _. after ≡ out ++ (version c.args.addr ++ hex (octets c.args.addr)))
    (λ _ e. e ∙ ap (λ l. l ++ hex low) upper ∙ all)
    c.push_hex-in-V6-2.ensures.added
