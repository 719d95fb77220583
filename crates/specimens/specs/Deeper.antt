-- The worked examples that take texts or several levels. Bytes are written in hexadecimal.
use Rattle.std.specs.Prelude.{◌≡◌, ℕ, List, [], ◌∷◌, Some, None, Ok, Err}
use Rattle.fault.specs.declared.Rule.TheVariants.{Truncated}
use Rattle.fault.specs.declared.Fault.{Fault}
use Rattle.wire.specs.Cursor.{Reads, before}
use Rattle.bottoms.specs.Verdicts.{int4_verdict}
use Rattle.hstore.specs.Layout.{Entry, hstore_layout}
use Rattle.hstore.specs.Recv.{hstore_recv, read_entry}
use Rattle.pile.specs.Piles.{arrays, ranges, pile_verdict}
use Rattle.validator.specs.Verdicts.{array_verdict, range_verdict}

-- salt of 1.2, and nuts NULL
abbrev pub larder : List Entry
larder = (0x73 ∷ 0x61 ∷ 0x6C ∷ 0x74 ∷ [], Some (0x31 ∷ 0x2E ∷ 0x32 ∷ [])) ∷ (0x6E ∷ 0x75 ∷ 0x74 ∷ 0x73 ∷ [], None) ∷ []

-- 00000002 00000004 73616C74 00000003 312E32 00000004 6E757473 FFFFFFFF
abbrev pub larder_bytes : List ℕ
larder_bytes =
    0x00 ∷ 0x00 ∷ 0x00 ∷ 0x02
    ∷ 0x00 ∷ 0x00 ∷ 0x00 ∷ 0x04 ∷ 0x73 ∷ 0x61 ∷ 0x6C ∷ 0x74 ∷ 0x00 ∷ 0x00 ∷ 0x00 ∷ 0x03 ∷ 0x31 ∷ 0x2E ∷ 0x32
    ∷ 0x00 ∷ 0x00 ∷ 0x00 ∷ 0x04 ∷ 0x6E ∷ 0x75 ∷ 0x74 ∷ 0x73 ∷ 0xFF ∷ 0xFF ∷ 0xFF ∷ 0xFF ∷ []

-- an array of OID 3904 with one range, from a word on that has three of its four bytes:
-- 00000001 00000000 00000F40 00000001 00000001 00000008 12 00000003 000007
abbrev pub cut_word : List ℕ
cut_word =
    0x00 ∷ 0x00 ∷ 0x00 ∷ 0x01 ∷ 0x00 ∷ 0x00 ∷ 0x00 ∷ 0x00 ∷ 0x00 ∷ 0x00 ∷ 0x0F ∷ 0x40
    ∷ 0x00 ∷ 0x00 ∷ 0x00 ∷ 0x01 ∷ 0x00 ∷ 0x00 ∷ 0x00 ∷ 0x01
    ∷ 0x00 ∷ 0x00 ∷ 0x00 ∷ 0x08 ∷ 0x12 ∷ 0x00 ∷ 0x00 ∷ 0x00 ∷ 0x03 ∷ 0x00 ∷ 0x00 ∷ 0x07 ∷ []

-- the word begins at 29, two levels down
abbrev pub cut_at_29 : Fault
cut_at_29 = record { rule = Truncated; place = 29; level = 2 }

pub record DeeperSpecimens : Type 0 where
  pub hstore_written : hstore_layout larder ≡ larder_bytes
  pub hstore_opened : hstore_recv larder_bytes ≡ Ok (before larder_bytes 4 2)
  pub hstore_entries : Reads read_entry (before larder_bytes 4 2) larder
  -- a word in a range in an array, by the layers and as a pile
  pub cut_layers : array_verdict (range_verdict int4_verdict) cut_word ≡ Err cut_at_29
  pub cut_pile : pile_verdict (arrays ∷ ranges ∷ []) int4_verdict cut_word ≡ Err cut_at_29
