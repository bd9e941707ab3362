-- The theorems on packing, each from the file that proves it.
-- Assumes nothing.
use Rattle.packing.specs.Claims.{Claims}
use Rattle.packing.proofs.Places.{little_place, big_place, places_in_inside, places_in_distinct}
use Rattle.packing.proofs.Frame.{round_trip, packed_bit, packed_other, packed_length, packed_bytes, packed_exchange, unpacked_other, agree}
use Rattle.packing.proofs.Frame.{packed_lowest, packed_append, unpacked_append}
use Rattle.packing.proofs.RoundTrip.{there_and_back}
use Rattle.packing.proofs.Values.{value_pattern, pattern_value, value_range, extended_pattern}

pub claims : Claims
claims =
    record {
      little_place = little_place;
      big_place = big_place;
      inside = places_in_inside;
      distinct = places_in_distinct;
      round_trip = round_trip;
      there_and_back = there_and_back;
      packed_bit = packed_bit;
      packed_other = packed_other;
      packed_length = packed_length;
      packed_bytes = packed_bytes;
      packed_exchange = packed_exchange;
      unpacked_other = unpacked_other;
      agree = agree;
      packed_lowest = packed_lowest;
      packed_append = packed_append;
      unpacked_append = unpacked_append;
      value_pattern = value_pattern;
      pattern_value = pattern_value;
      value_range = value_range;
      extended_pattern = extended_pattern;
    }
