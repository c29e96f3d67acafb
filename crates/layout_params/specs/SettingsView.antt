-- What contracts see of settings.
use Rattle.layout_params.specs.declared.settings.Settings.TheInside.{Inside}
use Rattle.layout_params.specs.Views.{sizes_of}
use Rattle.layout_params.specs.Parameters.{Settings}

abbrev pub settings_of : Inside → Settings
settings_of s = record {
  sizes = sizes_of s.numbers.sizes;
  function_flag = s.function_flag;
  mark_flag = s.mark_flag;
  pointer_flag = s.pointer_flag;
  string_title_flag = s.string_title_flag;
  title_flag = s.title_flag;
  stack_size = s.stack_size;
  dynamic_size = s.dynamic_size;
  bucket_count = s.bucket_count;
  date = s.date;
}
