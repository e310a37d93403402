-- What the parts of a meta that was read are for the definition, wherever their bytes lie: this project's own choice.
use Rattle.std.specs.Option.{option_copied, option_map}
use Rattle.rpc_meta.specs.declared.meta.Meta.{Meta}
use Rattle.rpc_meta.specs.declared.meta.RequestMeta.{RequestMeta}
use Rattle.rpc_meta.specs.declared.meta.ResponseMeta.{ResponseMeta}
use Rattle.rpc_meta.specs.declared.parts.MetaParts.{MetaParts}
use Rattle.rpc_meta.specs.declared.parts.RequestParts.{RequestParts}
use Rattle.rpc_meta.specs.declared.parts.ResponseParts.{ResponseParts}

abbrev pub request_seen : RequestParts → RequestMeta
request_seen r = record { service = r.service.now; method = r.method.now; log_id = r.log_id }

abbrev pub response_seen : ResponseParts → ResponseMeta
response_seen r = record { code = r.code; text = option_copied r.text }

abbrev pub meta_seen : MetaParts → Meta
meta_seen m = record { request = option_map request_seen m.request; response = option_map response_seen m.response; compress = m.compress; correlation = m.correlation; attachment = m.attachment }
